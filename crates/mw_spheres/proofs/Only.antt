-- Tables with what stands at some places alone.
use Rattle.std.proofs.Common.{◌≡◌, ℕ, ◌<◌, Bool, true, false, ◌⊎◌, List, [], length, All, refl, sym, ap, subst, ◌∙◌, inl, inr, arith}
use Rattle.std.specs.Prelude.{if◌then◌else◌}
use Rattle.std.proofs.lemmas.Bool.{cases_lt}
use Rattle.std.proofs.lemmas.List.{get_or_default, get_or_past, same_lists}
use Rattle.std.proofs.lemmas.List.FromFn.{get_or-map-range_with_len, length-map-range_with_len}
use Rattle.mw_rules.specs.Holds.{places_of}
use Rattle.mw_multi.specs.Joint.{Joint, item_total}
use Rattle.mw_multi.specs.Placement.{numbers_at}
use Rattle.mw_reach.specs.Reach.{Placed}
use Rattle.mw_reach.specs.Reached.{IsPlacedFor}
use Rattle.mw_spheres.specs.Playthrough.{only_at, only}
use Rattle.mw_spheres.specs.Thinning.{HasFewer}

either : (b : Bool) (xs : List ℕ) → xs ≡ [] → (if b then xs else []) ≡ []
either true xs e = e
either false xs e = refl

pub only-length : (kept : List Bool) (table : Placed) → length (only kept table) ≡ length table
only-length kept table = length-map-range_with_len (only_at kept table) 0 (length table)

pub only-at : (kept : List Bool) (table : Placed) (p : ℕ) → numbers_at (only kept table) p ≡ only_at kept table p
only-at kept table p = elim (cases_lt p (length table)) [
  | inl within ↦ get_or-map-range_with_len (only_at kept table) 0 (length table) p p [] within (omega arith)
  | inr past ↦ get_or_past (only kept table) p [] (omega (arith, only-length kept table)) ∙ sym (either (places_of kept p) (numbers_at table p) (get_or_past table p [] past))
]

-- tables with the same numbers at each place are the same
pub same_tables : (a b : Placed) → length a ≡ length b → ((p : ℕ) → numbers_at a p ≡ numbers_at b p) → a ≡ b
same_tables a b size entries = same_lists a b size (λ k d h. get_or_default a k d [] h ∙ entries k ∙ get_or_default b k [] d (omega arith))

-- flags that are the same show the same
pub only-same : (a b : List Bool) (table : Placed) → ((p : ℕ) → places_of a p ≡ places_of b p) → only a table ≡ only b table
only-same a b table h =
    same_tables (only a table) (only b table) (only-length a table ∙ sym (only-length b table))
    (λ p. only-at a table p ∙ ap (λ f. if f then numbers_at table p else []) (h p) ∙ sym (only-at b table p))

-- a table with what is shown at each place
pub only-from : (shown : List Bool) (full table : Placed) → length table ≡ length full → ((p : ℕ) → numbers_at table p ≡ only_at shown full p) → table ≡ only shown full
only-from shown full table size h = same_tables table (only shown full) (size ∙ sym (only-length shown full)) (λ p. h p ∙ sym (only-at shown full p))

-- ---- for reach

fewer_items : (items : ℕ) (xs ys : List ℕ) → ((xs ≡ []) ⊎ (xs ≡ ys)) → All (λ i. i < items) ys → All (λ i. i < items) xs
fewer_items items xs ys e all = elim e [
  | inl none ↦ rw none (λ i d h. absurd (omega arith))
  | inr same ↦ rw same all
]

pub fewer_fits : (joint : Joint) (table other : Placed) → length table ≡ length other → HasFewer table other → IsPlacedFor joint other → IsPlacedFor joint table
fewer_fits joint table other size fewer fits = record {
  size = size ∙ fits.size;
  items = λ p d h. rw (get_or_default table p d [] h)
      (fewer_items (item_total joint.slots) (numbers_at table p) (numbers_at other p) (fewer p) (fits.items p [] (omega arith)));
}

only_fewer : (b : Bool) (xs : List ℕ) → ((if b then xs else []) ≡ []) ⊎ ((if b then xs else []) ≡ xs)
only_fewer true xs = inr refl
only_fewer false xs = inl refl

pub only-fewer : (kept : List Bool) (table : Placed) → HasFewer (only kept table) table
only-fewer kept table q = subst (λ xs. (xs ≡ []) ⊎ (xs ≡ numbers_at table q)) (sym (only-at kept table q)) (only_fewer (places_of kept q) (numbers_at table q))

pub only-fits : (joint : Joint) (kept : List Bool) (table : Placed) → IsPlacedFor joint table → IsPlacedFor joint (only kept table)
only-fits joint kept table fits = fewer_fits joint (only kept table) table (only-length kept table) (only-fewer kept table) fits
