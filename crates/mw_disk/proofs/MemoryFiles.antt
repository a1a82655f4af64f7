-- What a file in memory gives is what an honest one gives.
use Rattle.std.proofs.Common.{◌≡◌, ◌<◌, ◌≤◌, ℕ, ◌-◌, List, length, take, drop, sym, ap, ◌∙◌, arith, Some}
use Rattle.std.specs.Prelude.{IsTrue, not, ◌||◌, ◌==◌, nat_le, min}
use Rattle.std.proofs.lemmas.List.{length-take}
use Rattle.std.proofs.lemmas.Bool.{and_from}
use Rattle.std.proofs.lemmas.Slice.Eq.{bytes_eq-Decides}
use Rattle.std.proofs.lemmas.Grind.{common_steps}
use Rattle.mw_disk.specs.FileLogs.{is_read}
use Rattle.mw_disk.specs.Range.{GivesRange}

ends : (bytes : List ℕ) (at room count len : ℕ) → count ≡ min len (length bytes - at) → len ≤ room → (0 < room → 0 < len)
    → IsTrue (not (count == 0) || (room == 0 || nat_le (length bytes) at))
ends bytes at room count len is within some = grind (arith, common_steps)

pub gives_read : (bytes : List ℕ) (at room most count : ℕ) (part whole : List ℕ) → GivesRange (Some bytes) at count part
    → length part ≡ min room most → 0 < most → take count whole ≡ take count part → length whole ≡ room
    → IsTrue (is_read bytes at room (take count whole))
gives_read bytes at room most count part whole given size some same all =
    let few : count ≤ length part = omega (arith, given.0) in
    let got : length (take count whole) ≡ count = omega (arith, length-take count whole) in
    let there : take count whole ≡ take (length (take count whole)) (drop at bytes) =
    same ∙ given.1 ∙ ap (λ n. take n (drop at bytes)) (sym got) in
    let last = ends bytes at room (length (take count whole)) (length part) (got ∙ given.0) (omega arith) (λ more. omega arith) in
    and_from _ _ ((bytes_eq-Decides (take count whole) (take (length (take count whole)) (drop at bytes))).1 there) last
