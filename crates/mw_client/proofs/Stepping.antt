-- What a step of a client's list leads to.
use Rattle.std.proofs.Common.{◌≡◌, ◌++◌, ◌==◌, ℕ, Bool, true, false, List, [], ◌∷◌, length, refl, sym, subst, append-nil, true≢false}
use Rattle.std.specs.Prelude.{IsTrue, IsFalse, if◌then◌else◌}
use Rattle.mw_laws.specs.Applied.{Client}
use Rattle.mw_model.specs.Items.{NetItem}
use Rattle.mw_client.specs.Bodies.{Leads, after_body, body_bytes}
use Rattle.mw_client.specs.Lists.{IsStep, body_for, client_after}
use Rattle.mw_client.specs.Playing.{saved_bytes, sync_of}
use Rattle.mw_client.specs.declared.answer.Answer.{Answer}
use Rattle.mw_client.specs.declared.answer.Answer.TheVariants.{Sync}
use Rattle.mw_client.specs.declared.step.Step.{Step}
use Rattle.mw_client.specs.declared.step.Step.TheVariants.{Same, Save, AskSync}
use Rattle.mw_client.proofs.Growing.{leads_on}

-- the client, where its index is 0 or isn't, and is its list's length or isn't
abbrev by_tests : List NetItem → List NetItem → Bool → Bool → Client
by_tests list items p q =
    if p then record { list = items; asks = false }
    else (if q then record { list = list ++ items; asks = false } else record { list = list; asks = true })

asking_stays : (list items : List NetItem) (p q : Bool) → IsTrue (by_tests list items p q).asks → (by_tests list items p q).list ≡ list
asking_stays list items true q asks = absurd (true≢false (sym asks))
asking_stays list items false true asks = absurd (true≢false (sym asks))
asking_stays list items false false asks = refl

saving_leads : (list items : List NetItem) (p q : Bool) → IsFalse (by_tests list items p q).asks → after_body list record { replaces = p; items = items } ≡ (by_tests list items p q).list
saving_leads list items true q quiet = refl
saving_leads list items false true quiet = refl
saving_leads list items false false quiet = absurd (true≢false quiet)

-- the bodies of a step lead on to the new list
pub step_leads : (list : List NetItem) (index : ℕ) (items : List NetItem) (step : Step) (before : List NetItem) (bytes : List ℕ) → IsStep list index items step → Leads before bytes list
    → Leads before (bytes ++ saved_bytes step) (client_after list index items).list
step_leads list index items Same before bytes is l =
    subst (λ (x : List ℕ). Leads before x (client_after list index items).list) (sym (append-nil bytes)) (subst (λ (m : List NetItem). Leads before bytes m) (sym is.1) l)
step_leads list index items (Save body) before bytes is l =
    let on : Leads before (bytes ++ body_bytes (body_for index items)) (after_body list (body_for index items)) = leads_on before list bytes (body_for index items) l is.3 in
    subst (λ (x : List ℕ). Leads before (bytes ++ x) (client_after list index items).list) (sym is.2)
    (subst (λ (m : List NetItem). Leads before (bytes ++ body_bytes (body_for index items)) m) (saving_leads list items (index == 0) (index == length list) is.0) on)
step_leads list index items AskSync before bytes is l =
    subst (λ (x : List ℕ). Leads before x (client_after list index items).list) (sym (append-nil bytes))
    (subst (λ (m : List NetItem). Leads before bytes m) (sym (asking_stays list items (index == 0) (index == length list) is)) l)

abbrev asked : Bool → List Answer
asked asks = if asks then Sync ∷ [] else []

quiet_asks : (asks : Bool) → IsFalse asks → asked asks ≡ []
quiet_asks true h = absurd (true≢false h)
quiet_asks false h = refl

loud_asks : (asks : Bool) → IsTrue asks → asked asks ≡ Sync ∷ []
loud_asks true h = refl
loud_asks false h = absurd (true≢false (sym h))

-- and it asks for Sync where the client does
pub step_asks : (list : List NetItem) (index : ℕ) (items : List NetItem) (step : Step) → IsStep list index items step → sync_of step ≡ asked (client_after list index items).asks
step_asks list index items Same is = sym (quiet_asks (client_after list index items).asks is.0)
step_asks list index items (Save body) is = sym (quiet_asks (client_after list index items).asks is.0)
step_asks list index items AskSync is = sym (loud_asks (client_after list index items).asks is)
