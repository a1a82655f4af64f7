use Rattle.mw_stress.proofs.Joints.{joined, stress_joint}
use Rattle.mw_stress.proofs.seed.players_join.Goals as goal

pub returns : goal.returns
returns c = λ many crowd. (stress_joint many, joined many crowd)
