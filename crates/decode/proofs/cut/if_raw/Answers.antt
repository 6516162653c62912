-- `cut::if_raw` meets its contract: the test is `is_raw`, which says what the definition asks.
use Rattle.decode.proofs.Table.{raw-so, raw-not}
use Rattle.decode.proofs.cut.if_raw.Goals as goal

pub returns-then-is_raw : goal.returns-then-is_raw
returns-then-is_raw c = search raw-so

pub returns-else-is_raw : goal.returns-else-is_raw
returns-else-is_raw c = search raw-not
