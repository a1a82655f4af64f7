use Rattle.std.proofs.Common.{◌≡◌, ◌==◌, ℕ, false, List, [], ◌∷◌, length, sym, ap, subst}
use Rattle.std.specs.Prelude.{◌≢◌, Err}
use Rattle.mw_client.specs.Bodies.{Leads}
use Rattle.mw_client.specs.declared.error.SavedError.{SavedError}
use Rattle.mw_client.specs.declared.error.SavedError.TheVariants.{BadBody}
use Rattle.mw_client.proofs.Leading.{entered_then, leads_nowhere, then_behind}
use Rattle.mw_client.proofs.saved.saved_list.Goals as goal

some_left : (l : List ℕ) → false ≡ (length l == 0) → l ≢ []
some_left [] e = absurd cc
some_left (x ∷ l) e = λ none. cc

pub returns-in-Err-clause-bad : goal.returns-in-Err-clause-bad
returns-in-Err-clause-bad c = λ is list leads.
    let same : c.in-Err.error ≡ BadBody = cc in
    leads_nowhere c.loop-rest.rest.now c.loop-rest.list.items list (some_left c.loop-rest.rest.now c.loop-rest-test.ensures)
    (c.in-Err.ensures.bad (ap (λ (e : SavedError). Err e) same)) (c.loop-rest.invariant.back list leads)

pub loop-rest-preserved : goal.loop-rest-preserved
loop-rest-preserved c =
    let rest = c.loop-rest.rest.now in
    let size = c.in-Ok.size in
    let before = c.loop-rest.list.items in
    let middle = c.enter_body.new.list.items in
    record {
      onward = λ after l. c.loop-rest.invariant.onward after (entered_then rest size before middle after c.in-Ok.ensures.entered (subst (λ (r : List ℕ). Leads middle r after) c.split_at.ensures.back l));
      back = λ after l. subst (λ (r : List ℕ). Leads middle r after) (sym c.split_at.ensures.back) (then_behind rest size before middle after c.in-Ok.ensures.entered (c.loop-rest.invariant.back after l));
    }
