-- A fill, copy by copy.
use Rattle.std.proofs.Common.{◌≡◌, ℕ, ◌+◌, ◌<◌, ◌≤◌, Bool, List, [], ◌∷◌, ◌++◌, Option, Some, None, All, length, get_or, set, drop, sym, ap, ◌∙◌, arith}
use Rattle.std.proofs.lemmas.List.{drop_all, drop_more}
use Rattle.mw_multi.specs.Joint.{Joint}
use Rattle.mw_multi.specs.Placement.{Put}
use Rattle.mw_fill.specs.Copies.{ItemCopy}
use Rattle.mw_fill.specs.Openings.{Opening, accepts}
use Rattle.mw_fill.specs.Fill.{filled, stuck_with, put_of, first_fit, or_stuck, placed_anywhere}
use Rattle.mw_fill.specs.Kept.{CopyKept, OpeningKept, IsHeldFor}
use Rattle.mw_fill.proofs.Fitting.{find_all, free_there, held_put}
use Rattle.mw_fill.proofs.Locations.{put_kept}

module _ (copies : List ItemCopy) (k : ℕ) (copy : ItemCopy) (within : k < length copies) (is : copy ≡ get_or copies k copy) where
  pub next_copy : drop k copies ≡ copy ∷ drop (k + 1) copies
  next_copy = drop_more copies k copy within ∙ ap (λ c. c ∷ drop (k + 1) copies) (sym is)

  pub anywhere_stuck : (openings : List Opening) (puts : List Put) → first_fit (accepts copy) puts openings ≡ None → placed_anywhere openings (drop k copies) puts ≡ stuck_with copy
  anywhere_stuck openings puts e =
      ap (λ cs. placed_anywhere openings cs puts) next_copy ∙ ap (λ o. or_stuck o copy (λ s. placed_anywhere openings (drop (k + 1) copies) (puts ++ put_of copy s ∷ []))) e

  pub anywhere_next : (openings : List Opening) (puts : List Put) (opening : Opening) → first_fit (accepts copy) puts openings ≡ Some opening
      → placed_anywhere openings (drop k copies) puts ≡ placed_anywhere openings (drop (k + 1) copies) (puts ++ put_of copy opening ∷ [])
  anywhere_next openings puts opening e =
      ap (λ cs. placed_anywhere openings cs puts) next_copy ∙ ap (λ o. or_stuck o copy (λ s. placed_anywhere openings (drop (k + 1) copies) (puts ++ put_of copy s ∷ []))) e

-- a copy at a location that fits
pub held_next : (joint : Joint) (copy : ItemCopy) (test : Opening → Bool) (puts : List Put) (openings : List Opening) (opening : Opening) (held : List (Option Put)) → CopyKept joint copy → All (OpeningKept joint) openings → IsHeldFor joint puts held
    → first_fit test puts openings ≡ Some opening → IsHeldFor joint (puts ++ put_of copy opening ∷ []) (set held opening.place (Some (put_of copy opening)))
held_next joint copy test puts openings opening held kept there h e =
    let site = find_all (OpeningKept joint) _ openings opening there e in
    held_put joint puts (put_of copy opening) held h (put_kept joint opening copy.receiver copy.item site kept.item) (omega (arith, h.size, site.place)) (free_there test puts openings opening e).0

pub anywhere_end : (copies : List ItemCopy) (k : ℕ) → length copies ≤ k → (openings : List Opening) (puts : List Put) → placed_anywhere openings (drop k copies) puts ≡ filled puts
anywhere_end copies k past openings puts = ap (λ cs. placed_anywhere openings cs puts) (drop_all k copies past)
