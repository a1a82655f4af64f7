-- The numbers that name something keep their row.
use Rattle.std.proofs.Common.{◌≡◌, ◌≤◌, ℕ, pos, List, Option, Some, None, Result, Ok, codes, arith}
use Rattle.std.specs.Prelude.{IfOk, IfSome, IsTrue}
use Rattle.std.proofs.lemmas.Result.{IfOk-at_ok, IfOk-weaker}
use Rattle.mw_model.specs.Json.{Json, Members, find_member}
use Rattle.mw_protocol.specs.Connecting.{is_mask}
use Rattle.mw_json.specs.Grammar.{Breach, under, number_at, field_at}
use Rattle.mw_json.specs.Parts.{read_if, field_if_at}
use Rattle.mw_json.specs.Readers.{field_or_at}
use Rattle.mw_json.specs.declared.refusal.Kind.TheVariants.{WrongKind}
use Rattle.mw_json.specs.declared.refusal.Step.TheVariants.{Name}
use Rattle.mw_json.proofs.Kept.{IsBetween, number_kept, in_field_or}
use Rattle.mw_json.proofs.Passing.{past, after, within, where_true, in_field}
use Rattle.mw_packets_in.specs.Fields.{mask_at, hint_status_at, client_status_at}
use Rattle.mw_packets_in.specs.Kept.{is_hint_status, is_client_status, HasMask, HasHintStatus}

module _ {A : Type 0} (P : A → Type 0) where
  if_there : (read : Json → Result A Breach) (found : Option Json) → ((j : Json) → IfOk (read j) P) → IfOk (read_if read found) (λ o. IfSome o P)
  if_there read None h = tt
  if_there read (Some j) h = after P (λ o. IfSome o P) (read j) (λ x. Ok (Some x)) (h j) (λ x p. p)

  -- what may be absent
  pub in_field_if : (name : List ℕ) (read : Json → Result A Breach) (ms : Members) → ((j : Json) → IfOk (read j) P) → IfOk (field_if_at name read ms) (λ o. IfSome o P)
  unfolding field_if_at
  in_field_if name read ms h = if_there (λ j. under (Name name) (read j)) (find_member name ms) (λ j. within P (Name name) (read j) (h j))

abbrev IsMask : ℕ → Type 0
IsMask m = IsTrue (is_mask (pos m))

mask_is : (j : Json) → IfOk (mask_at j) IsMask
unfolding mask_at
mask_is j = past IsMask (number_at 0 255 j) _ (λ n. where_true IsMask (is_mask (pos n)) n WrongKind (λ e. e))

pub mask_kept : (mask : Option ℕ) (ms : Members) → field_if_at (codes "items_handling") mask_at ms ≡ Ok mask → HasMask mask
mask_kept mask ms e = IfOk-at_ok HasMask e (in_field_if IsMask (codes "items_handling") mask_at ms mask_is)

abbrev IsHintStatus : ℕ → Type 0
IsHintStatus s = IsTrue (is_hint_status s)

hint_status_is : (j : Json) → IfOk (hint_status_at j) IsHintStatus
unfolding hint_status_at
hint_status_is j = past IsHintStatus (number_at 0 255 j) _ (λ n. where_true IsHintStatus (is_hint_status n) n WrongKind (λ e. e))

pub hint_status_kept : (status : Option ℕ) (ms : Members) → field_if_at (codes "status") hint_status_at ms ≡ Ok status → HasHintStatus status
hint_status_kept status ms e = IfOk-at_ok HasHintStatus e (in_field_if IsHintStatus (codes "status") hint_status_at ms hint_status_is)

abbrev IsClientStatus : ℕ → Type 0
IsClientStatus s = IsTrue (is_client_status s)

client_status_is : (j : Json) → IfOk (client_status_at j) IsClientStatus
unfolding client_status_at
client_status_is j = past IsClientStatus (number_at 0 255 j) _ (λ n. where_true IsClientStatus (is_client_status n) n WrongKind (λ e. e))

pub client_status_kept : (status : ℕ) (ms : Members) → field_at (codes "status") client_status_at ms ≡ Ok status → IsTrue (is_client_status status)
client_status_kept status ms e = IfOk-at_ok IsClientStatus e (in_field IsClientStatus (codes "status") client_status_at ms client_status_is)

-- 0, 1 or 2
abbrev IsChoice : ℕ → Type 0
IsChoice n = n ≤ 2

choice_is : (j : Json) → IfOk (number_at 0 2 j) IsChoice
choice_is j = IfOk-weaker (number_at 0 2 j) (IsBetween 0 2) IsChoice (λ n h. h.1) (number_kept 0 2 j)

pub hint_choice_kept : (choice : ℕ) (ms : Members) → field_or_at (codes "create_as_hint") 0 (number_at 0 2) ms ≡ Ok choice → choice ≤ 2
hint_choice_kept choice ms e = IfOk-at_ok IsChoice e (in_field_or IsChoice (codes "create_as_hint") 0 (number_at 0 2) ms (omega arith) choice_is)
