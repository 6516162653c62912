-- The fields of the table are the words.
use Rattle.reader.proofs.Lines.{first_names}
use Rattle.reader.proofs.first_place.Goals as goal

pub returns : goal.returns
returns c = first_names _ c.place_of.ensures
