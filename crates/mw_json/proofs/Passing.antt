-- What is known of a value that a grammar gives, step by step.
use Rattle.std.proofs.Common.{◌≡◌, ℕ, List, Bool, true, false, Result, Ok, Err, if◌then◌else◌, refl}
use Rattle.std.specs.Prelude.{IfOk}
use Rattle.mw_model.specs.Json.{Json, Members}
use Rattle.mw_json.specs.Grammar.{Breach, ◌>>=◌, refused, under, member_at, field_at}
use Rattle.mw_json.specs.declared.refusal.Kind.{Kind}
use Rattle.mw_json.specs.declared.refusal.Step.{Step}
use Rattle.mw_json.specs.declared.refusal.Step.TheVariants.{Name}

module _ {A : Type 0} where
  -- whatever is read first
  pub past : {B : Type 0} (Q : B → Type 0) (read : Result A Breach) (next : A → Result B Breach) → ((x : A) → IfOk (next x) Q) → IfOk (read >>= next) Q
  past Q (Ok x) next k = k x
  past Q (Err e) next k = tt

module _ {A : Type 0} (P : A → Type 0) where
  -- what is known of it passes on
  pub after : {B : Type 0} (Q : B → Type 0) (read : Result A Breach) (next : A → Result B Breach) → IfOk read P → ((x : A) → P x → IfOk (next x) Q) → IfOk (read >>= next) Q
  after Q (Ok x) next h k = k x h
  after Q (Err e) next h k = tt

  pub within : (step : Step) (read : Result A Breach) → IfOk read P → IfOk (under step read) P
  within step (Ok x) h = h
  within step (Err e) h = tt

  pub where_true : (test : Bool) (x : A) (kind : Kind) → (test ≡ true → P x) → IfOk (if test then Ok x else refused kind) P
  where_true true x kind h = h refl
  where_true false x kind h = tt

  pub in_field : (name : List ℕ) (read : Json → Result A Breach) (ms : Members) → ((j : Json) → IfOk (read j) P) → IfOk (field_at name read ms) P
  unfolding field_at
  in_field name read ms h = past P (member_at name ms) _ (λ j. within (Name name) (read j) (h j))

  pub if_told : (read : Result A Breach) → ((x : A) → read ≡ Ok x → P x) → IfOk read P
  if_told (Ok x) h = h x refl
  if_told (Err e) h = tt

-- what holds anyway
pub always : {A P : Type 0} (read : Result A Breach) → P → IfOk read (λ _. P)
always (Ok x) p = p
always (Err e) p = tt
