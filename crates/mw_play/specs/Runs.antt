-- What a run of `multiplay` comes to.
use Rattle.std.specs.Prelude.{◌≡◌, ◌≢◌, ◌⊎◌, ℕ, List, [], ◌∷◌, ◌++◌, Option, Some, ⊤}
use Rattle.std.specs.Io.KnownBytes.{Appends, Keeps}
use Rattle.mw_edges.specs.Folders.{opened_bytes}
use Rattle.mw_link.specs.Dials.{Exchange}
use Rattle.mw_model.specs.Items.{NetItem}
use Rattle.mw_client.specs.Playing.{Play}
use Rattle.mw_play.specs.Ends.{end_line, end_status}
use Rattle.mw_play.specs.Ids.{HasIds, HasNoIds}
use Rattle.mw_play.specs.Printing.{list_text, refusal_line}
use Rattle.mw_play.specs.Saves.{HoldsList, IsRefused, WasSaved, save_digest}
use Rattle.mw_play.specs.Turns.{HeardFull, LeavesLast, PlaysOver}
use Rattle.mw_play.specs.Words.{IsPlay}
use Rattle.mw_play.specs.declared.end.PlayEnd.{PlayEnd}
use Rattle.mw_play.specs.declared.end.PlayEnd.TheVariants.{Ended, TurnedAway, EndedEarly, Spent, BadWords, Fault, Memory, Refused, Full}
use Rattle.mw_play.specs.declared.over.CutShort.{CutShort}
use Rattle.mw_play.specs.declared.over.CutShort.TheVariants as cut
use Rattle.mw_play.specs.declared.over.Over.{Over}
use Rattle.mw_play.specs.declared.over.Over.TheVariants as over
use Rattle.mw_play.specs.declared.player.Player.{Player}
use Rattle.mw_play.specs.declared.save_error.SaveError.{SaveError}
use Rattle.mw_play.specs.declared.save_error.SaveError.TheVariants as save
use Rattle.mw_play.specs.declared.words.PlayWords.{PlayWords}

-- ---- from a save file on

-- the bytes that were told, if any, stood for a list
abbrev pub WasList : Option (List ℕ) → List ℕ → List NetItem → Type 0
WasList told digest list = (f : List ℕ) → told ≡ Some f → WasSaved f digest list

-- a client that began with the list of a save file played over one line more, and the file then
-- stands for its new list, whatever a crash leaves
pub record PlaysFrom (told : Option (List ℕ)) (images : List ℕ → Type 0) (digest : List ℕ)
    (player : Player) (before after : List Exchange) (over : Over) (p : Play) : Type 0 where
  pub list : List NetItem
  pub was : WasList told digest list
  pub plays : PlaysOver player list before after over p
  pub saved : (c : List ℕ) → images c → HoldsList c digest p.list

-- the end for why a save file gives no list, and for why turns were cut short
abbrev pub end_of_save : SaveError → PlayEnd
end_of_save save.DiskFault = Fault
end_of_save (save.Refused refusal) = Refused refusal
end_of_save save.Memory = Memory

abbrev pub end_of_cut : CutShort → PlayEnd
end_of_cut cut.Fault = Fault
end_of_cut cut.Full = Full
end_of_cut cut.Memory = Memory

-- why it was stopped
abbrev pub StopsFrom : Option (List ℕ) → (List ℕ → Type 0) → List ℕ → List Exchange
    → List Exchange → PlayEnd → Type 0
StopsFrom told images digest before after (Refused refusal) =
    (f : List ℕ) → told ≡ Some f → IsRefused f digest refusal
StopsFrom told images digest before after Full =
    (list : List NetItem) × WasList told digest list × HeardFull images digest list before after
StopsFrom told images digest before after Fault = ⊤
StopsFrom told images digest before after Memory = ⊤
StopsFrom told images digest before after Ended = ⊥
StopsFrom told images digest before after (TurnedAway line) = ⊥
StopsFrom told images digest before after EndedEarly = ⊥
StopsFrom told images digest before after Spent = ⊥
StopsFrom told images digest before after BadWords = ⊥

-- what a crash may leave of the save file once a line was dialled: it stands for the list that was
-- saved before once all texts were heard that came over the line, or all but the last
abbrev pub LeavesSave : Option (List ℕ) → (List ℕ → Type 0) → List ℕ → List Exchange
    → List Exchange → Type 0
LeavesSave told images digest before after =
    (after ≡ before)
    ⊎ ((list : List NetItem) × WasList told digest list
    × LeavesLast images digest list before after)

-- ---- the whole run

-- the words; what is left of the input, what is told of files, what a crash may leave of them, the
-- addresses that were dialled, the lines that were hung up, and what the out sink holds, before and
-- after
pub record PlayRun : Type 1 where
  pub words : List (List ℕ)
  pub input_before : Option (List ℕ)
  pub input_after : Option (List ℕ)
  pub files_before : List ℕ → Option (Option (List ℕ))
  pub files_after : List ℕ → Option (Option (List ℕ))
  pub may_leave : List ℕ → List ℕ → Type 0
  pub dialled_before : List (List ℕ)
  pub dialled_after : List (List ℕ)
  pub hung_before : List Exchange
  pub hung_after : List Exchange
  pub out_before : Option (List ℕ)
  pub out_after : Option (List ℕ)

module _ {F L : Type 0} (holds : F → List ℕ → Option (Option (List ℕ)))
    (images : F → List ℕ → List ℕ → Type 0) (dialled : L → List (List ℕ))
    (hung_up : L → List Exchange) where
  -- the same of a folder and a dial, before and after, which tell so
  abbrev pub run_of : List (List ℕ) → Option (List ℕ) → Option (List ℕ) → F → F → L → L
      → Option (List ℕ) → Option (List ℕ) → PlayRun
  run_of words input input2 files files2 dial dial2 out out2 = record {
    words = words;
    input_before = input;
    input_after = input2;
    files_before = holds files;
    files_after = holds files2;
    may_leave = images files2;
    dialled_before = dialled dial;
    dialled_after = dialled dial2;
    hung_before = hung_up dial;
    hung_after = hung_up dial2;
    out_before = out;
    out_after = out2;
  }

abbrev pub digest_for : PlayWords → List ℕ
digest_for asked = save_digest asked.who.game asked.who.name

-- what the words ask for, and the locations that the input names
pub record IsAsked (run : PlayRun) (player : Player) : Type 0 where
  pub words : IsPlay run.words player.words
  pub input : HasIds run.input_before run.input_after player.locations

-- it played to an end: over one line, at the address, from the list of the save file on, which then
-- stands for the new list, and that was printed
pub record HasPlayed (run : PlayRun) (over : Over) (p : Play) : Type 0 where
  pub player : Player
  pub asked : IsAsked run player
  pub dialled : run.dialled_after ≡ run.dialled_before ++ player.words.address ∷ []
  pub plays : PlaysFrom (opened_bytes (run.files_before player.words.save))
      (run.may_leave player.words.save) (digest_for player.words) player
      run.hung_before run.hung_after over p
  pub shown : Appends run.out_before run.out_after (list_text p.list)

-- the words aren't as they should be, or the input isn't
abbrev pub HasBadWords : PlayRun → Type 0
HasBadWords run =
    ((asked : PlayWords) → IsPlay run.words asked → ⊥) ⊎ HasNoIds run.input_before run.input_after

-- it was stopped, and printed nothing
pub record IsStopped (run : PlayRun) (end : PlayEnd) : Type 0 where
  pub player : Player
  pub asked : IsAsked run player
  pub stops : StopsFrom (opened_bytes (run.files_before player.words.save))
      (run.may_leave player.words.save) (digest_for player.words)
      run.hung_before run.hung_after end
  pub quiet : Keeps run.out_before run.out_after

-- what each end says of a run
abbrev pub EndsWith : PlayRun → PlayEnd → Type 0
EndsWith run Ended = (p : Play) × HasPlayed run over.Ended p
EndsWith run EndedEarly = (p : Play) × HasPlayed run over.EndedEarly p
EndsWith run (TurnedAway line) = (p : Play) × (errors : List (List ℕ))
    × HasPlayed run over.TurnedAway p × (p.refusal ≡ Some errors) × (line ≡ refusal_line errors)
EndsWith run Spent = (p : Play) × HasPlayed run over.Spent p
EndsWith run BadWords = HasBadWords run
EndsWith run (Refused refusal) = IsStopped run (Refused refusal)
EndsWith run Full = IsStopped run Full
EndsWith run Fault = ⊤
EndsWith run Memory = ⊤

-- how turns ended, told once the list was shown
abbrev pub Finishes : Over → Play → Type 0 → PlayEnd → Type 0
Finishes how p shown Ended = (how ≡ over.Ended) × shown
Finishes how p shown EndedEarly = (how ≡ over.EndedEarly) × shown
Finishes how p shown (TurnedAway line) = (how ≡ over.TurnedAway) × shown
    × ((errors : List (List ℕ)) × (p.refusal ≡ Some errors) × (line ≡ refusal_line errors))
Finishes how p shown Spent = (how ≡ over.Spent) × shown
Finishes how p shown Fault = ⊤
Finishes how p shown Memory = ⊤
Finishes how p shown BadWords = ⊥
Finishes how p shown (Refused refusal) = ⊥
Finishes how p shown Full = ⊥

-- why nobody plays: the words or the input aren't as they should be, or reading them was stopped
abbrev pub NobodyPlays : PlayEnd → Type 0 → Type 0
NobodyPlays BadWords bad = bad
NobodyPlays Fault bad = ⊤
NobodyPlays Memory bad = ⊤
NobodyPlays Ended bad = ⊥
NobodyPlays EndedEarly bad = ⊥
NobodyPlays (TurnedAway line) bad = ⊥
NobodyPlays Spent bad = ⊥
NobodyPlays (Refused refusal) bad = ⊥
NobodyPlays Full bad = ⊥

-- the save file was left so, and all other files are as before
pub record LeavesFile (run : PlayRun) (asked : PlayWords) : Type 0 where
  pub save : LeavesSave (opened_bytes (run.files_before asked.save)) (run.may_leave asked.save)
      (digest_for asked) run.hung_before run.hung_after
  pub others : (n : List ℕ) → n ≢ asked.save → run.files_after n ≡ run.files_before n

-- whatever the end is: no file was touched and no line dialled; or just the save file was
abbrev pub LeavesFiles : PlayRun → Type 0
LeavesFiles run =
    (((n : List ℕ) → run.files_after n ≡ run.files_before n) × (run.hung_after ≡ run.hung_before))
    ⊎ ((asked : PlayWords) × IsPlay run.words asked × LeavesFile run asked)

-- it ended so: with the end's status and line, and with what the end says
pub record RunEnds (run : PlayRun) (status : ℕ) (told : List ℕ → Type 0) : Type 0 where
  pub end : PlayEnd
  pub is : status ≡ end_status end
  pub says : EndsWith run end
  pub line : told (end_line end)
  pub leaves : LeavesFiles run
