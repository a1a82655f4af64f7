-- The players of `stress` name one file.
use Rattle.std.proofs.Common.{◌≡◌, ◌∙◌, ℕ, zero, suc, List, [], ◌∷◌, ◌++◌, length, refl, sym, ap, arith}
use Rattle.mw_multi.specs.Files.{files_with, with_file, world_files}
use Rattle.mw_multi.specs.Players.{Player, Players}
use Rattle.mw_multi.specs.World.{World}
use Rattle.mw_stress.specs.Stress as plain
use Rattle.mw_stress.specs.Stress.{IsCrowd, player, players_below, world_file}

files_more : (files : List (List ℕ)) (ps : List Player) (p : Player) → files_with files (ps ++ p ∷ []) ≡ with_file (files_with files ps) p.world
files_more files [] p = refl
files_more files (q ∷ ps) p = files_more (with_file files q.world) ps p

one_file : (n : ℕ) → files_with [] (players_below (suc n)) ≡ world_file ∷ []
one_file zero = refl
one_file (suc n) = files_more [] (players_below (suc n)) (player (suc n)) ∙ ap (λ fs. with_file fs world_file) (one_file n)

pub named_one : (many : ℕ) → IsCrowd many → world_files (plain.players many) ≡ world_file ∷ []
named_one zero crowd = absurd (omega (arith, crowd.low))
named_one (suc n) crowd = one_file n

-- there is a world for it
pub one_world : (many : ℕ) (worlds : List World) (played : Players) → IsCrowd many → worlds ≡ plain.world ∷ [] → played ≡ plain.players many → length worlds ≡ length (world_files played)
one_world many worlds played crowd worlds_are played_are = ap length worlds_are ∙ sym (ap length (ap world_files played_are ∙ named_one many crowd))
