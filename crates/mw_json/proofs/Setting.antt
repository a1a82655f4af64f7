-- A member that is set at its place.
use Rattle.std.proofs.Common.{◌≡◌, ℕ, List, nat_cmp, refl, ap, ◌∙◌}
use Rattle.std.specs.Ordering.{ordering_reverse}
use Rattle.std.specs.declared.cmp.Ordering.{Ordering}
use Rattle.std.specs.declared.cmp.Ordering.TheVariants.{Less, Equal, Greater}
use Rattle.std.specs.Cmp.Lexicographic.{slice_cmp}
use Rattle.std.proofs.lemmas.Cmp.{nat_list_cmp_total}
use Rattle.mw_model.specs.Json.{Json, Members, no_members, member, ComeAfter, IsWritable, MembersAreWritable}
use Rattle.mw_model.specs.Trees.{set_member}
use Rattle.mw_json.specs.Valid.{IsValid, MembersAreValid}

come_through : (k l : List ℕ) (ms : Members) → slice_cmp nat_cmp k l ≡ Less → ComeAfter l ms → ComeAfter k ms
come_through k l no_members less h = tt
come_through k l (member m j ms) less h = (nat_list_cmp_total.trans k l m less h.0, come_through k l ms less h.1)

-- where this member stands, by how its name and the first one are ordered
abbrev pub Placed : List ℕ → Json → List ℕ → Json → Members → Ordering → Members
Placed k j m i ms o = elim o [ Less ↦ member k j (member m i ms) | Equal ↦ member m j ms | Greater ↦ member m i (set_member k j ms) ]

set_after : (l k : List ℕ) (j : Json) (ms : Members) → slice_cmp nat_cmp l k ≡ Less → ComeAfter l ms → ComeAfter l (set_member k j ms)
set_after l k j no_members less h = (less, tt)
set_after l k j (member m i ms) less h =
    let P : Ordering → Type 0 = λ o. ComeAfter l (Placed k j m i ms o) in
    elim (slice_cmp nat_cmp k m) as P [ Less ↦ (less, h) | Equal ↦ h | Greater ↦ (h.0, set_after l k j ms less h.1) ]

pub set_valid : (k : List ℕ) (j : Json) (ms : Members) → IsValid j → MembersAreValid ms → MembersAreValid (set_member k j ms)
set_valid k j no_members one h = (one, tt, tt)
set_valid k j (member m i ms) one h =
    let P : Ordering → Type 0 = λ o. slice_cmp nat_cmp k m ≡ o → MembersAreValid (Placed k j m i ms o) in
    let at : P (slice_cmp nat_cmp k m) =
    elim (slice_cmp nat_cmp k m) as P [
      | Less ↦ λ is. (one, (is, come_through k m ms is h.1), h)
      | Equal ↦ λ is. (one, h.1, h.2)
      | Greater ↦ λ is. (h.0, set_after m k j ms (nat_list_cmp_total.antisymm m k ∙ ap ordering_reverse is) h.1, set_valid k j ms one h.2)
    ] in
    at refl

pub set_writable : (k : List ℕ) (j : Json) (ms : Members) → IsWritable j → MembersAreWritable ms → MembersAreWritable (set_member k j ms)
set_writable k j no_members one h = (one, tt)
set_writable k j (member m i ms) one h =
    let P : Ordering → Type 0 = λ o. MembersAreWritable (Placed k j m i ms o) in
    elim (slice_cmp nat_cmp k m) as P [ Less ↦ (one, h) | Equal ↦ (one, h.1) | Greater ↦ (h.0, set_writable k j ms one h.1) ]
