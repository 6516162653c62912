-- The fields of the table are the words.
use Rattle.reader.proofs.Lines.{value_names}
use Rattle.reader.proofs.value_place.Goals as goal

pub returns : goal.returns
returns c = value_names _ _ c.nth.ensures.value c.place_of.ensures
