-- What a disk that tells its bytes told before.
use Rattle.std.proofs.Common.{◌≡◌, ◌≤◌, ℕ, List, refl, Some, None, sym, ◌∙◌, arith}
use Rattle.std.specs.declared.option.Option.{Option}
use Rattle.std.specs.Option.{option_map}
use Rattle.std.specs.Prelude.{Result, Ok, Err, OnOk, IfErr}
use Rattle.mw_journal.specs.declared.error.OpenError.{OpenError}
use Rattle.mw_journal.specs.declared.error.OpenError.TheVariants.{DiskFault, NotEmpty, NotJournal, OtherSeed, Memory}
use Rattle.mw_journal.specs.Opening.{RefusesStep, RefusesOpen}
use Rattle.mw_journal.specs.Refused.{IsNotJournal, IsOtherSeed}

pub some_is : (a b : List ℕ) → (let x : Option (List ℕ) = Some a in x) ≡ Some b → a ≡ b
some_is a b is = cc

-- bytes that a call made of others
pub told_before : (f : List ℕ → List ℕ) (told : Option (List ℕ)) (c : List ℕ) → option_map f told ≡ Some c
    → (d : List ℕ) × (told ≡ Some d) × (c ≡ f d)
told_before f None c is = absurd cc
told_before f (Some d) c is = (d, refl, sym (some_is (f d) c is))

-- two facts of a call that was done give a third
pub on_ok : {T E A B C : Type 0} (r : Result T E) → OnOk r A → OnOk r B → (A → B → C) → OnOk r C
on_ok (Ok v) a b f = f a b
on_ok (Err e) a b f = tt

pub on_ok_one : {T E A B : Type 0} (r : Result T E) → OnOk r A → (A → B) → OnOk r B
on_ok_one (Ok v) a f = f a
on_ok_one (Err e) a f = tt

-- what every error says, another fact says of it
pub if_err : {T E : Type 0} (P Q : E → Type 0) (r : Result T E) → IfErr r P → ((e : E) → P e → Q e) → IfErr r Q
if_err P Q (Ok v) a f = tt
if_err P Q (Err e) a f = f e a

-- an error of a step that judged bytes and made no call
pub judged : (A A' : ℕ → Type 0) (B B' : List ℕ → Type 0) (before after : ℕ) (e : OpenError)
    → RefusesStep A B 1 1 e → ((at : ℕ) → A at → A' at) → ((found : List ℕ) → B found → B' found) → RefusesStep A' B' before after e
judged A A' B B' before after DiskFault refuses f g = absurd (omega arith)
judged A A' B B' before after NotEmpty refuses f g = refuses
judged A A' B B' before after (NotJournal at) refuses f g = f at refuses
judged A A' B B' before after (OtherSeed found) refuses f g = g found refuses
judged A A' B B' before after Memory refuses f g = tt

-- an error of a step of `open` is one of `open`
pub refuses_open : (told : Option (List ℕ)) (digest : List ℕ) (A : ℕ → Type 0) (B : List ℕ → Type 0) (before mid after : ℕ) (e : OpenError)
    → before ≤ mid → RefusesStep A B mid after e
    → ((at : ℕ) → A at → (f : List ℕ) → told ≡ Some f → IsNotJournal f digest at)
    → ((found : List ℕ) → B found → (f : List ℕ) → told ≡ Some f → IsOtherSeed f digest found)
    → RefusesOpen told digest before after e
refuses_open told digest A B before mid after DiskFault later refuses f g = omega (arith, later, refuses)
refuses_open told digest A B before mid after NotEmpty later refuses f g = refuses
refuses_open told digest A B before mid after (NotJournal at) later refuses f g = f at refuses
refuses_open told digest A B before mid after (OtherSeed found) later refuses f g = g found refuses
refuses_open told digest A B before mid after Memory later refuses f g = tt

-- and so is one of a later part of it
pub refuses_later : (told now : Option (List ℕ)) (digest : List ℕ) (before mid after : ℕ) (e : OpenError)
    → before ≤ mid → now ≡ told → RefusesOpen now digest mid after e → RefusesOpen told digest before after e
refuses_later told now digest before mid after DiskFault later same refuses = omega (arith, later, refuses)
refuses_later told now digest before mid after NotEmpty later same refuses = refuses
refuses_later told now digest before mid after (NotJournal at) later same refuses = λ f is. refuses f (same ∙ is)
refuses_later told now digest before mid after (OtherSeed found) later same refuses = λ f is. refuses f (same ∙ is)
refuses_later told now digest before mid after Memory later same refuses = tt
