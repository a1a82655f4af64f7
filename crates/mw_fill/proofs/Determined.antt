-- A try comes to one thing.
use Rattle.std.proofs.Common.{◌≡◌, ℕ, suc, ◌+◌, cond, List, [], ◌∷◌, ◌++◌, Option, Some, None, MatchOption, refl, sym, ap, ap₂, subst, ◌∙◌, inl, inr, arith}
use Rattle.std.proofs.lemmas.Bool.{cases_Bool}
use Rattle.mw_rules.specs.Holds.{Places}
use Rattle.mw_rules.specs.Laws.{IsPartOf}
use Rattle.mw_multi.specs.Joint.{Joint}
use Rattle.mw_multi.specs.Steps.{steps_of}
use Rattle.mw_multi.specs.Placement.{Put}
use Rattle.mw_multi.specs.Events.{events_of}
use Rattle.mw_reach.specs.Reach.{Placed, times_in, found_from, bag_with, IsLeast}
use Rattle.mw_fill.specs.Copies.{ItemCopy}
use Rattle.mw_fill.specs.Openings.{Opening}
use Rattle.mw_fill.specs.Fill.{Outcome, stuck_with, put_of, first_fit, in_hand, is_allowed, FillRun}
use Rattle.mw_fill.specs.Try.{and_then, the_rest}
use Rattle.mw_fill.specs.Laws.{HasOneOutcome}
use Rattle.mw_fill.proofs.Allowing.{first_alike}
use Rattle.mw_fill.proofs.Keeping.{found_alike, least_alike}

-- lists that are part of one another
pub same_places : (v w : Places) → IsPartOf v w → IsPartOf w v → (p : ℕ) → v p ≡ w p
same_places v w h k p = elim (cases_Bool (v p)) [
  | inl in_v ↦ in_v ∙ sym (h p in_v)
  | inr not_v ↦ elim (cases_Bool (w p)) [ inl in_w ↦ k p in_w ∙ sym in_w | inr not_w ↦ not_v ∙ sym not_w ]
]

-- what is found at the same places
found_places : (k : ℕ) (table : Placed) (v w : Places) (i : ℕ) → ((p : ℕ) → v p ≡ w p) → found_from k table v i ≡ found_from k table w i
found_places k [] v w i same = refl
found_places k (x ∷ table) v w i same = ap₂ (λ b rest. cond b (times_in i x) 0 + rest) (same k) (found_places (suc k) table v w i same)

one_outcome : (o : Option Opening) (copy : ItemCopy) (out other : Outcome) (Rest Other : Opening → Type 0) → ((s : Opening) → Rest s → Other s → out ≡ other)
    → MatchOption o (out ≡ stuck_with copy) Rest → MatchOption o (other ≡ stuck_with copy) Other → out ≡ other
one_outcome None copy out other Rest Other h a b = a ∙ sym b
one_outcome (Some s) copy out other Rest Other h a b = h s a b

run_once : (joint : Joint) (openings : List Opening) (copies : List ItemCopy) (puts : List Put) (out other : Outcome) → FillRun joint openings copies puts out → FillRun joint openings copies puts other → out ≡ other
run_once joint openings [] puts out other r s = r ∙ sym s
run_once joint openings (copy ∷ later) puts out other r s =
    let v = r.1 in
    let w = s.1 in
    let moved : IsLeast (steps_of joint) (in_hand joint later) s.0 v = least_alike joint (events_of joint ++ puts) (in_hand joint later) r.0 s.0 v r.2 s.2 r.3 in
    let same = same_places v w (moved.least w s.3.closed) (s.3.least v moved.closed) in
    let hand = in_hand joint later in
    let items : (i : ℕ) → bag_with hand s.0 w i ≡ bag_with hand r.0 v i = λ i. omega (arith, found_alike joint (events_of joint ++ puts) s.0 r.0 w i s.2 r.2, found_places 0 r.0 w v i (λ p. sym (same p))) in
    let here = is_allowed joint (bag_with hand r.0 v) v copy in
    let there = is_allowed joint (bag_with hand s.0 w) w copy in
    let fits : first_fit there puts openings ≡ first_fit here puts openings = first_alike joint (bag_with hand s.0 w) (bag_with hand r.0 v) w v copy puts openings items (λ p. sym (same p)) in
    one_outcome (first_fit here puts openings) copy out other
    (λ opening. FillRun joint openings later (puts ++ put_of copy opening ∷ []) out) (λ opening. FillRun joint openings later (puts ++ put_of copy opening ∷ []) other)
    (λ opening a b. run_once joint openings later (puts ++ put_of copy opening ∷ []) out other a b) r.4
    (subst (λ o. MatchOption o (other ≡ stuck_with copy) (λ opening. FillRun joint openings later (puts ++ put_of copy opening ∷ []) other)) fits s.4)

pub has_one_outcome : HasOneOutcome
has_one_outcome joint lists out other r s =
    r.2 ∙ ap (λ first. and_then first (the_rest lists)) (run_once joint _ lists.asked [] r.0 s.0 r.1 s.1) ∙ sym s.2
