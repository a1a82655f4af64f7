-- The lines of a playthrough, sphere by sphere.
use Rattle.std.proofs.Common.{◌≡◌, ◌<◌, ◌+◌, ◌++◌, ℕ, suc, List, Option, drop, flat_map, get_or, length, ap, sym, ◌∙◌, append_assoc, arith}
use Rattle.mw_model.specs.Seed.{Spot}
use Rattle.mw_multi.specs.Joint.{Joint}
use Rattle.mw_multi.specs.Placement.{Put}
use Rattle.mw_seeds.specs.Played.{spot_line, played_lines}
use Rattle.mw_seeds.proofs.Pushed.{drop_next}

-- the lines of one sphere more
pub lines_more : (joint : Joint) (f : ℕ → Option Put) (text new start : List ℕ) (i : ℕ) (spheres : List (List Spot)) (sphere spots : List Spot) → i < length spheres → sphere ≡ get_or spheres i sphere → spots ≡ sphere
    → new ≡ text ++ flat_map (spot_line joint f (i + 1)) spots → text ++ played_lines joint f (i + 1) (drop i spheres) ≡ start → new ++ played_lines joint f (i + 1 + 1) (drop (i + 1) spheres) ≡ start
lines_more joint f text new start i spheres sphere spots h is same grown so =
    let later : ℕ → List ℕ = λ n. played_lines joint f n (drop (i + 1) spheres) in
    let line : List ℕ = flat_map (spot_line joint f (i + 1)) sphere in
    let at : i + 1 + 1 ≡ suc (i + 1) = omega arith in
    ap (λ t. t ++ later (i + 1 + 1)) (grown ∙ ap (λ (s : List Spot). text ++ flat_map (spot_line joint f (i + 1)) s) same) ∙ append_assoc text line (later (i + 1 + 1))
    ∙ ap (λ n. text ++ (line ++ later n)) at ∙ ap (λ xs. text ++ played_lines joint f (i + 1) xs) (sym (drop_next spheres i sphere h is)) ∙ so
