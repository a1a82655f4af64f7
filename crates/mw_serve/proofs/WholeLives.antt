-- All runs on one journal keep what any of them showed.
use Rattle.std.proofs.Common.{◌≡◌, ◌∙◌, ℕ, List, [], ◌∷◌, ◌++◌, Option, Some, None, sym, ap, subst, append_assoc, length, take, drop}
use Rattle.std.specs.List.{AllByRecursion}
use Rattle.mw_causes.specs.Tables.{Files}
use Rattle.mw_journal.specs.Settled.{AllShut}
use Rattle.mw_laws.specs.Items.{ItemsComeOnce}
use Rattle.mw_laws.specs.Kept.{journal_after}
use Rattle.mw_laws.specs.Shows.{ShowsChecked}
use Rattle.mw_laws.specs.Tails.{taking}
use Rattle.mw_model.specs.Seed.{Seed}
use Rattle.mw_offline.proofs.WholeLives.{IsToldRun, Leads, are_kept_by, run_leads, run_shown, told_later}
use Rattle.mw_offline.specs.WholeLives.{AreKept, AreRuns}
use Rattle.mw_protocol.specs.Asked.{view}
use Rattle.mw_protocol.specs.Lives.{Step, crashes}
use Rattle.mw_protocol.specs.Records.{Record}
use Rattle.mw_protocol.specs.Rooms.{Message}
use Rattle.mw_session.specs.declared.served.Served.{Served}
use Rattle.mw_serve.specs.Sent.{AllKeep, AreOfTaken, LineKeeps, LinesKeep}
use Rattle.mw_serve.specs.Taken.{IsOfTaken, WasTaken}
use Rattle.mw_serve.proofs.Sending.{all_weaker}
use Rattle.mw_serve.specs.WholeLives.{AnyRun, KeepsAny, KeepsTaken, KeepsText, KeepsTexts, ShowsOn, drives, end_of_run, first_of, serves}

-- ---- in later steps

module _ (seed : Seed) (steps more : List Step) where
  taken_later : (session : ℕ) (m : Message) → WasTaken seed steps session m → WasTaken seed (steps ++ more) session m
  taken_later session m t = record {
    front = t.front;
    luck = t.luck;
    back = t.back ++ more;
    goes_on = ap (λ ss. ss ++ more) t.goes_on ∙ append_assoc t.front (taking session t.luck ∷ t.back) more;
    taken = t.taken;
    tails = t.tails;
    shows = λ later k plays. subst (λ ss. ShowsChecked seed (journal_after seed ss) k m) (sym (append_assoc steps more later)) (t.shows (more ++ later) k plays);
  }

  texts_later : (session : Option ℕ) (texts : List (List ℕ)) → AreOfTaken seed steps session texts → AreOfTaken seed (steps ++ more) session texts
  texts_later None texts h = h
  texts_later (Some session) texts h = (
    all_weaker (IsOfTaken seed steps session) (IsOfTaken seed (steps ++ more) session) (λ text k. (k.0, k.1, taken_later session k.0 k.2)) texts h.0,
    record { front = h.1.front; back = h.1.back ++ more; point = ap (λ ss. ss ++ more) h.1.point ∙ append_assoc h.1.front h.1.back more; s = h.1.s; found = h.1.found; first = h.1.first },
  )

  sent_later : {T : Type 0} (sent_by : T → List (List ℕ)) (served : List (List (Served T))) → AllKeep sent_by seed steps served → AllKeep sent_by seed (steps ++ more) served
  sent_later sent_by served h =
      all_weaker (LinesKeep sent_by seed steps) (LinesKeep sent_by seed (steps ++ more))
      (λ es. all_weaker (LineKeeps sent_by seed steps) (LineKeeps sent_by seed (steps ++ more)) (λ e. texts_later e.session (sent_by e.line)) es) served h

-- ---- by a journal that a crash may have left

module _ (seed : Seed) (steps : List Step) (journal : List Record) (more place : ℕ) (is : journal_after seed (steps ++ crashes more place ∷ []) ≡ journal) where
  taken_kept : (session : ℕ) (m : Message) → WasTaken seed steps session m → KeepsTaken seed steps journal session m
  taken_kept session m t = record {
    took = t;
    shows = λ k plays. subst (λ j. ShowsChecked seed j k m) is (t.shows (crashes more place ∷ []) k plays);
    stand = λ index items has.
        let tail = t.tails index items has in
        let run : t.front ++ taking session t.luck ∷ (t.back ++ crashes more place ∷ []) ≡ steps ++ crashes more place ∷ [] =
        sym (append_assoc t.front (taking session t.luck ∷ t.back) (crashes more place ∷ [])) ∙ ap (λ s. s ++ crashes more place ∷ []) (sym t.goes_on) in
        subst (λ j. items ≡ take (length items) (drop index (view seed tail.member.mask tail.member.team tail.member.slot j))) (ap (journal_after seed) run ∙ is) (tail.last (t.back ++ crashes more place ∷ []));
  }

  texts_kept : (session : Option ℕ) (texts : List (List ℕ)) → AreOfTaken seed steps session texts → KeepsTexts seed steps journal session texts
  texts_kept None texts h = h
  texts_kept (Some session) texts h = (all_weaker (IsOfTaken seed steps session) (KeepsText seed steps journal session) (λ text k. (k.0, k.1, taken_kept session k.0 k.2)) texts h.0, h.1)

  sent_kept : {T : Type 0} (sent_by : T → List (List ℕ)) (served : List (List (Served T))) → AllKeep sent_by seed steps served → AllByRecursion (AllByRecursion (λ (e : Served T). KeepsTexts seed steps journal e.session (sent_by e.line))) served
  sent_kept sent_by served h =
      all_weaker (LinesKeep sent_by seed steps) (AllByRecursion (λ (e : Served _). KeepsTexts seed steps journal e.session (sent_by e.line)))
      (λ es. all_weaker (LineKeeps sent_by seed steps) (λ (e : Served _). KeepsTexts seed steps journal e.session (sent_by e.line)) (λ e. texts_kept e.session (sent_by e.line)) es) served h

-- ---- runs

module _ {F T : Type 0} (holds : F → Files) (images : F → List ℕ → List ℕ → Type 0) (sent_by : T → List (List ℕ)) (digest : List ℕ) (seed : Seed) (name : List ℕ) where
  abbrev Told : List Step → AnyRun F T → Type 0
  Told steps (drives r) = IsToldRun seed steps r
  Told steps (serves r) = AllKeep sent_by seed steps r.served

  later : (steps more : List Step) (r : AnyRun F T) → Told steps r → Told (steps ++ more) r
  later steps more (drives r) h = told_later seed steps more r h
  later steps more (serves r) h = sent_later seed steps more sent_by r.served h

  leads : (r : AnyRun F T) → ShowsOn holds images sent_by digest seed name r → Leads holds images digest seed name first_of end_of_run Told later r
  leads (drives r) keeps steps some left = let k = run_leads holds images digest seed name r keeps steps some left in record { more = k.more; left = k.left; is = k.is }
  leads (serves r) keeps steps some left = let k = keeps steps some left in record { more = k.more; left = k.settled; is = k.sent }

  shown : (steps : List Step) (journal : List Record) (more place : ℕ) → journal_after seed (steps ++ crashes more place ∷ []) ≡ journal → (r : AnyRun F T) → Told steps r → KeepsAny holds images sent_by seed steps journal r
  shown steps journal more place is (drives r) h = run_shown seed steps journal more place is r h
  shown steps journal more place is (serves r) h = sent_kept seed steps journal more place is sent_by r.served h

  pub all_kept_on : ItemsComeOnce → (made : F) (rs : List (AnyRun F T)) → AllShut (images made name) digest [] 40 → AreRuns holds images digest seed name first_of end_of_run (ShowsOn holds images sent_by digest seed name) made rs
      → AreKept holds images digest seed name first_of end_of_run (KeepsAny holds images sent_by seed) made rs
  all_kept_on = are_kept_by holds images digest seed name first_of end_of_run Told later (ShowsOn holds images sent_by digest seed name) leads (KeepsAny holds images sent_by seed) shown
