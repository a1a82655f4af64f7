-- Keys that were read already.
use Rattle.std.proofs.Common.{◌≡◌, ℕ, List, true, false, Some, bytes_eq, nat_cmp, is_some, cond, refl, sym, ap, ◌∙◌}
use Rattle.std.specs.Cmp.Lexicographic.{slice_cmp}
use Rattle.std.specs.Ordering.{ordering_reverse}
use Rattle.std.specs.declared.cmp.Ordering.{Ordering}
use Rattle.std.specs.declared.cmp.Ordering.TheVariants.{Less, Equal, Greater}
use Rattle.std.proofs.lemmas.Cmp.{nat_list_cmp_total, tied_itself}
use Rattle.std.proofs.lemmas.Map.Lookups.{exact_bytes}
use Rattle.std.proofs.lemmas.Slice.Eq.{bytes_eq-Decides}
use Rattle.mw_model.specs.Json.{Json, Members, no_members, member, ComeAfter, MembersAreOrdered, find_member}
use Rattle.mw_protocol.specs.Operations.{set_member}
use Rattle.mw_effects.specs.Reading.{AreRead}

-- a name that is found among those after another comes after it
comes_after : (l name : List ℕ) (ms : Members) → ComeAfter l ms → is_some (find_member name ms) ≡ true → slice_cmp nat_cmp l name ≡ Less
comes_after l name no_members h found = cc
comes_after l name (member k j ms) h found =
    (elim (bytes_eq k name) as (λ b. bytes_eq k name ≡ b → is_some (cond b (Some j) (find_member name ms)) ≡ true → slice_cmp nat_cmp l name ≡ Less) [
      | true ↦ (λ e f. ap (slice_cmp nat_cmp l) (sym ((bytes_eq-Decides k name).0 e)) ∙ h.0)
      | false ↦ (λ e f. comes_after l name ms h.1 f)
    ]) refl found

-- to set what was read again changes nothing
pub set_again : (read : List ℕ → Json) (name : List ℕ) (ms : Members) → MembersAreOrdered ms → AreRead read ms → is_some (find_member name ms) ≡ true
    → set_member name (read name) ms ≡ ms
set_again read name no_members o h found = cc
set_again read name (member k j ms) o h found =
    let by : Ordering → Members = λ d. elim d [ Less ↦ member name (read name) (member k j ms) | Equal ↦ member k (read name) ms | Greater ↦ member k j (set_member name (read name) ms) ] in
    (elim (bytes_eq k name) as (λ b. bytes_eq k name ≡ b → is_some (cond b (Some j) (find_member name ms)) ≡ true → by (slice_cmp nat_cmp name k) ≡ member k j ms) [
      | true ↦ (λ e f.
          let same : k ≡ name = (bytes_eq-Decides k name).0 e in
          let tied : slice_cmp nat_cmp name k ≡ Equal = ap (slice_cmp nat_cmp name) same ∙ tied_itself nat_list_cmp_total name in
          ap by tied ∙ ap (λ v. member k v ms) (ap read (sym same) ∙ sym h.0))
      | false ↦ (λ e f.
          let after : slice_cmp nat_cmp name k ≡ Greater = nat_list_cmp_total.antisymm name k ∙ ap ordering_reverse (comes_after k name ms o.1 f) in
          ap by after ∙ ap (member k j) (set_again read name ms o.2 h.1 f))
    ]) refl found

-- what is read once more is read
pub set_read : (read : List ℕ → Json) (name : List ℕ) (ms : Members) → AreRead read ms → AreRead read (set_member name (read name) ms)
set_read read name no_members h = (refl, tt)
set_read read name (member k j ms) h =
    let P : Ordering → Type 0 = λ d. AreRead read (elim d [ Less ↦ member name (read name) (member k j ms) | Equal ↦ member k (read name) ms | Greater ↦ member k j (set_member name (read name) ms) ]) in
    (elim (slice_cmp nat_cmp name k) as (λ d. slice_cmp nat_cmp name k ≡ d → P d) [
      | Less ↦ (λ e. (refl, h))
      | Equal ↦ (λ e. (ap read (exact_bytes name k e), h.1))
      | Greater ↦ (λ e. (h.0, set_read read name ms h.1))
    ]) refl
