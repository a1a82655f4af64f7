-- Why a save file gives no list, from why its text gives none.
use Rattle.std.proofs.Common.{◌≡◌, ℕ, List, Option, Some}
use Rattle.mw_journal.specs.Image.{StandsAt}
use Rattle.mw_play.specs.Saves.{RefusesSave, RefusesText}
use Rattle.mw_play.specs.declared.save_error.SaveError.{SaveError}
use Rattle.mw_play.specs.declared.save_error.SaveError.TheVariants.{DiskFault, Refused, Memory}
use Rattle.mw_play.specs.declared.save_error.SaveRefusal.TheVariants.{NotJournal, OtherSeed, BadBody}

pub text_refused : (told : Option (List ℕ)) (digest text : List ℕ) (place before after : ℕ) (error : SaveError) → ((f : List ℕ) → told ≡ Some f → StandsAt f digest text place)
    → RefusesText text error → RefusesSave told digest before after error
text_refused told digest text place before after DiskFault stands none = absurd none
text_refused told digest text place before after (Refused NotJournal) stands none = absurd none
text_refused told digest text place before after (Refused OtherSeed) stands none = absurd none
text_refused told digest text place before after (Refused BadBody) stands none = λ f is. (text, (place, stands f is), none)
text_refused told digest text place before after Memory stands none = tt
