-- `writing::store_data` meets its contract. Assumes nothing.
use mathlib.Core.Path.{◌∙◌}
use native.Mathlib.Omega.{arith}
use Rattle.writing.proofs.Writing.{data_stored}
use Rattle.writing.proofs.store_data.Goals as goal

pub store_transcript-requires : goal.store_transcript-requires
store_transcript-requires c = omega (arith, c.requires.0, c.requires.1)

pub clear-requires : goal.clear-requires
clear-requires c =
    omega (arith, c.store_transcript.ensures.long, c.requires.0, c.requires.1)

pub shape_of-nodes : goal.shape_of-nodes
shape_of-nodes c =
    c.clear.ensures.long ∙ c.store_transcript.ensures.long

pub returns : goal.returns
returns c =
    data_stored _ _ _ _ _ c.store_transcript.ensures c.clear.ensures
