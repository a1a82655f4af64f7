-- What a room that is made anew from a journal stands for.
use Rattle.std.proofs.Common.{◌≡◌, ◌≢◌, ◌⊎◌, ◌++◌, ℕ, List, inl, inr, sym, subst, ◌∙◌, Some}
use Rattle.std.specs.declared.option.Option.{Option}
use Rattle.mw_model.specs.Seed.{Seed}
use Rattle.mw_protocol.specs.Records.{Record}
use Rattle.mw_protocol.specs.Spelled.{records_bytes}
use Rattle.mw_journal.specs.Image.{StandsAt}
use Rattle.mw_journal.specs.Opening.{IsOfBytes, RefusesOpen}
use Rattle.mw_journal.specs.Opening.{IsOutside as IsOutsideJournal}
use Rattle.mw_journal.specs.declared.error.OpenError.{OpenError}
use Rattle.mw_journal.specs.declared.error.OpenError.TheVariants as open_error
use Rattle.mw_keep.specs.Entered.{AreSound, RefusesText}
use Rattle.mw_keep.specs.Holds.{AreRecords}
use Rattle.mw_keep.specs.Recovers.{IsNoJournal, IsOutside, RefusesResume, keep_error_of}
use Rattle.mw_keep.specs.declared.error.KeepError.{KeepError}
use Rattle.mw_keep.specs.declared.error.KeepError.TheVariants.{BadSeed, DiskFault, NotJournal, OtherSeed, BadRecord, Memory}
use Rattle.mw_keep.proofs.Acting.{both_records}
use Rattle.mw_keep.proofs.Appending.{bytes_joined}
use Rattle.mw_keep.proofs.Parsing.{both_sound, none_bad, one_parse}

-- an open journal is never there already
pub never_there : (told : Option (List ℕ)) (digest : List ℕ) (before after : ℕ) (error : OpenError) → RefusesOpen told digest before after error
    → error ≢ open_error.NotEmpty
never_there told digest before after error refuses is = subst (RefusesOpen told digest before after) is refuses

pub refuses_as : (told : Option (List ℕ)) (digest : List ℕ) (seed : Seed) (before after : ℕ) (error : OpenError)
    → RefusesOpen told digest before after error → RefusesResume told digest seed before after (keep_error_of error)
refuses_as told digest seed before after open_error.DiskFault refuses = refuses
refuses_as told digest seed before after open_error.NotEmpty refuses = absurd refuses
refuses_as told digest seed before after (open_error.NotJournal at) refuses = refuses
refuses_as told digest seed before after (open_error.OtherSeed found) refuses = refuses
refuses_as told digest seed before after open_error.Memory refuses = tt

pub outside_as : (error : OpenError) → IsOutsideJournal error → IsOutside (keep_error_of error)
outside_as open_error.DiskFault outside = tt
outside_as open_error.NotEmpty outside = tt
outside_as (open_error.NotJournal at) outside = outside
outside_as (open_error.OtherSeed found) outside = outside
outside_as open_error.Memory outside = tt

-- a record of the text is bad, as the disk's bytes stand for it
pub refuses_text : (told : Option (List ℕ)) (digest : List ℕ) (seed : Seed) (before after : ℕ) (text : List ℕ) (place : ℕ) (error : KeepError)
    → RefusesText seed text error → ((f : List ℕ) → told ≡ Some f → StandsAt f digest text place)
    → RefusesResume told digest seed before after error
refuses_text told digest seed before after text place (BadSeed kind path) refuses stands = absurd refuses
refuses_text told digest seed before after text place DiskFault refuses stands = absurd refuses
refuses_text told digest seed before after text place (NotJournal at) refuses stands = absurd refuses
refuses_text told digest seed before after text place (OtherSeed found) refuses stands = absurd refuses
refuses_text told digest seed before after text place (BadRecord at) refuses stands = λ f is. (text, (place, stands f is), refuses)
refuses_text told digest seed before after text place Memory refuses stands = tt

-- no record of a text is bad that is that of sound records, or of them and a batch
pub outside_text : (seed : Seed) (text : List ℕ) (kept batch : List Record) (error : KeepError) → AreSound seed kept → AreSound seed batch
    → (text ≡ records_bytes kept) ⊎ (text ≡ records_bytes kept ++ records_bytes batch) → RefusesText seed text error → IsOutside error
outside_text seed text kept batch (BadSeed kind path) sound more is refuses = absurd refuses
outside_text seed text kept batch DiskFault sound more is refuses = tt
outside_text seed text kept batch (NotJournal at) sound more is refuses = absurd refuses
outside_text seed text kept batch (OtherSeed found) sound more is refuses = absurd refuses
outside_text seed text kept batch (BadRecord at) sound more (inl is) refuses = none_bad seed text at kept sound is refuses
outside_text seed text kept batch (BadRecord at) sound more (inr is) refuses =
    none_bad seed text at (kept ++ batch) (both_sound seed kept batch sound more) (is ∙ sym (bytes_joined kept batch)) refuses
outside_text seed text kept batch Memory sound more is refuses = tt

-- the records of a text are these, or these and the batch
pub one_of : (text : List ℕ) (journal kept batch : List Record) → text ≡ records_bytes journal → AreRecords journal → AreRecords kept → AreRecords batch
    → (text ≡ records_bytes kept) ⊎ (text ≡ records_bytes kept ++ records_bytes batch) → (journal ≡ kept) ⊎ (journal ≡ kept ++ batch)
one_of text journal kept batch is spelled first second (inl alone) = inl (one_parse journal kept spelled first (sym is ∙ alone))
one_of text journal kept batch is spelled first second (inr both) =
    inr (one_parse journal (kept ++ batch) spelled (both_records kept batch first second) (sym is ∙ both ∙ sym (bytes_joined kept batch)))

-- that the bytes are no journal is said by `open` alone
pub of_bytes : (error : OpenError) → IsNoJournal (keep_error_of error) → IsOfBytes error
of_bytes open_error.DiskFault none = none
of_bytes open_error.NotEmpty none = tt
of_bytes (open_error.NotJournal at) none = tt
of_bytes (open_error.OtherSeed found) none = tt
of_bytes open_error.Memory none = none

pub never_of_text : (seed : Seed) (text : List ℕ) (error : KeepError) → RefusesText seed text error → IsNoJournal error → ⊥
never_of_text seed text (BadSeed kind path) refuses none = none
never_of_text seed text DiskFault refuses none = none
never_of_text seed text (NotJournal at) refuses none = refuses
never_of_text seed text (OtherSeed found) refuses none = refuses
never_of_text seed text (BadRecord at) refuses none = none
never_of_text seed text Memory refuses none = none
