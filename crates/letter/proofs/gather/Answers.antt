use Rattle.letter.proofs.Classes.{table}
use Rattle.letter.proofs.gather.Goals as goal

pub class_in-k-requires : goal.class_in-k-requires
class_in-k-requires c = record { entry = λ b h. (table b h).0 }
