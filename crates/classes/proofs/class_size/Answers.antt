-- `classes::class_size` meets its contract: all classes have as many members. Assumes nothing.
use Rattle.classes.proofs.Members.{class_members}
use Rattle.classes.proofs.class_size.Goals as goal

pub returns : goal.returns
returns c = class_members c.requires
