-- A room that is recovered where a crash left its disk.
use Rattle.std.proofs.Common.{◌≡◌, ℕ, List, Option, Some, None, Result, Ok, Err, refl, subst, true}
use Rattle.std.specs.Option.{is_some}
use Rattle.std.specs.Prelude.{IfOk, IsTrue}
use Rattle.mw_model.specs.Seed.{Seed}
use Rattle.mw_protocol.specs.Lives.{Life, committed_of}
use Rattle.mw_protocol.specs.Named.{are_named}
use Rattle.mw_protocol.specs.Records.{Record}
use Rattle.mw_protocol.specs.Spelled.{records_bytes}
use Rattle.mw_journal.specs.Settled.{AllSettled}
use Rattle.mw_keep.specs.Entered.{AreSound}
use Rattle.mw_keep.specs.Keeps.{Keeps}
use Rattle.mw_keep.specs.Left.{GoesOn, WasLeft}
use Rattle.mw_keep.specs.Recovers.{IsOutside, Resumes}
use Rattle.mw_keep.specs.declared.error.KeepError.{KeepError}
use Rattle.mw_keep.specs.declared.kept.KeptRoom.{KeptRoom}
use Rattle.mw_keep.proofs.Leaving.{anew_so, committed_records, committed_sound, first_records, first_sound}

some_told : (told : Option (List ℕ)) → is_some told ≡ true → (f : List ℕ) × (told ≡ Some f)
some_told None h = cc
some_told (Some f) h = (f, refl)

-- it goes on from the life in which the crash came
pub goes_on_from : {D : Type 0} (told : D → Option (List ℕ)) (may_leave : D → List ℕ → Type 0) (digest : List ℕ) (seed : Seed) (disk : D) (k : KeptRoom D) (life : Life)
    → Resumes told may_leave digest seed disk k → WasLeft (told disk) (may_leave disk) digest seed life → GoesOn may_leave digest life k
goes_on_from told may_leave digest seed disk k life r was =
    let f = some_told (told disk) was.0 in
    let left = was.2 in
    let either = r.one f.0 (committed_of life) left.batch f.1 (committed_records life left.records) (first_records life left.batch left.first left.records) left.settled in
    let anew = anew_so life seed left.batch r.journal r.place was.1 left.first either in
    record { more = anew.0; place = r.place; keeps = subst (λ l. Keeps may_leave digest l k) anew.1 r.keeps }

-- it isn't refused for its bytes
pub left_accepted : (told : Option (List ℕ)) (images : List ℕ → Type 0) (digest : List ℕ) (seed : Seed) (life : Life) (error : KeepError) → IsTrue (are_named seed life.room.journal)
    → ((f : List ℕ) (kept batch : List Record) → told ≡ Some f → AreSound seed kept → AreSound seed batch → AllSettled images digest (records_bytes kept) (records_bytes batch) → IsOutside error)
    → WasLeft told images digest seed life → IsOutside error
left_accepted told images digest seed life error named settled was =
    let f = some_told told was.0 in
    let left = was.2 in
    let sound : AreSound seed life.room.journal = record { spelled = left.records; named = named } in
    settled f.0 (committed_of life) left.batch f.1 (committed_sound life seed sound) (first_sound life seed sound left.batch left.first) left.settled

-- what is known of an answer comes to what follows from it
pub if_ok : {T E : Type 0} (P Q : T → Type 0) (r : Result T E) → IfOk r P → ((x : T) → P x → Q x) → IfOk r Q
if_ok P Q (Ok x) h f = f x h
if_ok P Q (Err e) h f = tt
