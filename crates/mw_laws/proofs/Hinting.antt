-- Hints of a journal that grows.
use Rattle.std.proofs.Common.{◌≡◌, ℕ, ℤ, ◌==◌, ◌&&◌, List, true, false, cond, ◌∷◌, [], ◌++◌, Option, Some, None, is_some, IsSomeAnd, IsTrue, All, refl, sym, ap, ap₂, subst, ◌∙◌, append-nil, true≢false, eq-eqb}
use Rattle.std.specs.Ordering.{int_eq}
use Rattle.std.proofs.lemmas.Bool.{and_from, or_left, cond_both, cond-true}
use Rattle.std.proofs.lemmas.Bool.Decides.{Decides-int_eq}
use Rattle.mw_model.specs.Seed.{Seed, Held}
use Rattle.mw_protocol.specs.Asked.{asked}
use Rattle.mw_protocol.specs.Checks.{Check, has_check, unseen}
use Rattle.mw_protocol.specs.HintList.{is_at, hint_at, with_status, marked, made, hinted, bought_by}
use Rattle.mw_protocol.specs.Hints.{told_hint, shown_status}
use Rattle.mw_protocol.specs.Records.{Record, Hint, checks, release, collect, status, hint, hint_status, store}
use Rattle.mw_protocol.specs.Standing.{Standing, step, steps, start, standing, is_checked}
use Rattle.mw_laws.specs.Hinted.{IsShownFound, HintsStand, AreApart, HintsCostOnce}
use Rattle.mw_laws.proofs.Each.{Each, each_weaker, some_same, none_some}
use Rattle.mw_laws.proofs.Journal.{standing-append, has_check_append, steps_checked}
use Rattle.mw_laws.proofs.Pairs.{Pairs, each_at, pairs_at, pairs_append, pairs_filter}

-- ---- what is checked

checked_stays : (seed : Seed) (journal more : List Record) (team slot : ℕ) (location : ℤ)
    → IsTrue (is_checked (standing seed journal) team slot location) → IsTrue (is_checked (standing seed (journal ++ more)) team slot location)
checked_stays seed journal more team slot location h =
    let s = standing seed journal in
    let check : Check = record { team = team; slot = slot; location = location } in
    ap (λ t. has_check t.checked check) (standing-append seed journal more)
    ∙ ap (λ cs. has_check cs check) (steps_checked seed s more)
    ∙ has_check_append s.checked (unseen s.checked (asked seed more)) check
    ∙ or_left (has_check s.checked check) (has_check (unseen s.checked (asked seed more)) check) h

found_shows : (seed : Seed) (s : Standing) (h : Hint) (at : Option Held) → IsTrue (is_checked s h.team h.finder h.location) → All IsShownFound (told_hint (is_checked s) h at)
found_shows seed s h None found = each_at IsShownFound [] tt
found_shows seed s h (Some at) found = each_at IsShownFound (told_hint (is_checked s) h (Some at)) ((found, ap (λ b. shown_status b h.status) found), tt)

-- ---- hints stand

some_and : {A : Type 0} (P : A → Type 0) (o : Option A) → IsSomeAnd o P → (x : A) × (o ≡ Some x) × P x
some_and P None h = absurd h
some_and P (Some x) h = (x, refl, h)

weaker : {A : Type 0} (P Q : A → Type 0) (o : Option A) → ((x : A) → P x → Q x) → IsSomeAnd o P → IsSomeAnd o Q
weaker P Q None f h = h
weaker P Q (Some x) f h = f x h

-- it is the hint, but for its status
abbrev IsHint : Hint → Hint → Type 0
IsHint h k = k ≡ with_status k.status h

is_same : (h : Hint) (o : Option Hint) → o ≡ Some h → IsSomeAnd o (IsHint h)
is_same h o e = subst (λ p. IsSomeAnd p (IsHint h)) (sym e) refl

hint_append : (xs ys : List Hint) (team finder : ℕ) (location : ℤ) (h : Hint) → hint_at xs team finder location ≡ Some h → hint_at (xs ++ ys) team finder location ≡ Some h
hint_append [] ys team finder location h e = absurd (none_some h e)
hint_append (x ∷ xs) ys team finder location h e =
    elim (is_at team finder location x) as (λ b. cond b (Some x) (hint_at xs team finder location) ≡ Some h → cond b (Some x) (hint_at (xs ++ ys) team finder location) ≡ Some h) [
      | true ↦ λ same. same
      | false ↦ λ later. hint_append xs ys team finder location h later
    ] e

made_stands : (hs : List Hint) (g : Hint) (team finder : ℕ) (location : ℤ) (h : Hint) → hint_at hs team finder location ≡ Some h → hint_at (made hs g) team finder location ≡ Some h
made_stands hs g team finder location h e =
    cond_both (is_some (hint_at hs g.team g.finder g.location)) hs (hs ++ g ∷ []) (λ ks. hint_at ks team finder location ≡ Some h) (λ _. e) (λ _. hint_append hs (g ∷ []) team finder location h e)

marked_stands : (hs : List Hint) (t f : ℕ) (l : ℤ) (s team finder : ℕ) (location : ℤ) (h : Hint) → hint_at hs team finder location ≡ Some h → IsSomeAnd (hint_at (marked hs t f l s) team finder location) (IsHint h)
marked_stands [] t f l s team finder location h e = absurd (none_some h e)
marked_stands (g ∷ gs) t f l s team finder location h e =
    elim (is_at t f l g) as (λ a. IsSomeAnd (hint_at (cond a (with_status s g ∷ gs) (g ∷ marked gs t f l s)) team finder location) (IsHint h)) [
      | true ↦
          elim (is_at team finder location g) as (λ b. cond b (Some g) (hint_at gs team finder location) ≡ Some h → IsSomeAnd (cond b (Some (with_status s g)) (hint_at gs team finder location)) (IsHint h)) [
            | true ↦ λ same. ap (with_status s) (some_same g h same)
            | false ↦ λ later. is_same h (hint_at gs team finder location) later
          ] e
      | false ↦
          elim (is_at team finder location g) as (λ b. cond b (Some g) (hint_at gs team finder location) ≡ Some h → IsSomeAnd (cond b (Some g) (hint_at (marked gs t f l s) team finder location)) (IsHint h)) [
            | true ↦ λ same. is_same h (Some g) same
            | false ↦ λ later. marked_stands gs t f l s team finder location h later
          ] e
    ]

hinted_stands : (hs : List Hint) (r : Record) (team finder : ℕ) (location : ℤ) (h : Hint) → hint_at hs team finder location ≡ Some h → IsSomeAnd (hint_at (hinted hs r) team finder location) (IsHint h)
hinted_stands hs (checks t slot locations) team finder location h e = is_same h (hint_at hs team finder location) e
hinted_stands hs (release t slot) team finder location h e = is_same h (hint_at hs team finder location) e
hinted_stands hs (collect t slot) team finder location h e = is_same h (hint_at hs team finder location) e
hinted_stands hs (status t slot s) team finder location h e = is_same h (hint_at hs team finder location) e
hinted_stands hs (hint g) team finder location h e = is_same h (hint_at (made hs g) team finder location) (made_stands hs g team finder location h e)
hinted_stands hs (hint_status t f l s) team finder location h e = marked_stands hs t f l s team finder location h e
hinted_stands hs (store key value) team finder location h e = is_same h (hint_at hs team finder location) e

steps_stand : (seed : Seed) (s : Standing) (rs : List Record) (team finder : ℕ) (location : ℤ) (h : Hint) → hint_at s.hints team finder location ≡ Some h → IsSomeAnd (hint_at (steps seed s rs).hints team finder location) (IsHint h)
steps_stand seed s [] team finder location h e = is_same h (hint_at s.hints team finder location) e
steps_stand seed s (r ∷ rs) team finder location h e =
    let first = some_and (IsHint h) (hint_at (hinted s.hints r) team finder location) (hinted_stands s.hints r team finder location h e) in
    weaker (IsHint first.0) (IsHint h) (hint_at (steps seed (step seed s r) rs).hints team finder location)
    (λ k same. same ∙ ap (with_status k.status) first.2)
    (steps_stand seed (step seed s r) rs team finder location first.0 first.1)

pub hints_stand : HintsStand
hints_stand seed journal more = record {
  checked = checked_stays seed journal more;
  shown = λ h at found. found_shows seed (standing seed (journal ++ more)) h at (checked_stays seed journal more h.team h.finder h.location found);
  stands = λ team finder location h e.
      subst (λ s. IsSomeAnd (hint_at s.hints team finder location) (IsHint h)) (sym (standing-append seed journal more)) (steps_stand seed (standing seed journal) more team finder location h e);
}

-- ---- one hint for a location

no_hint : (hs : List Hint) (team finder : ℕ) (location : ℤ) → is_some (hint_at hs team finder location) ≡ false → Each (λ x. is_at team finder location x ≡ false) hs
no_hint [] team finder location e = tt
no_hint (h ∷ hs) team finder location e =
    elim (is_at team finder location h) as (λ b. is_at team finder location h ≡ b → is_some (cond b (Some h) (hint_at hs team finder location)) ≡ false → Each (λ x. is_at team finder location x ≡ false) (h ∷ hs)) [
      | true ↦ λ _ none. absurd (true≢false none)
      | false ↦ λ other none. (other, no_hint hs team finder location none)
    ] refl e

apart_from : (g x : Hint) → is_at g.team g.finder g.location x ≡ false → AreApart x g
apart_from g x other same =
    let all : is_at g.team g.finder g.location x ≡ true =
    and_from ((x.team == g.team) && (x.finder == g.finder)) (int_eq x.location g.location)
    (and_from (x.team == g.team) (x.finder == g.finder) (eq-eqb x.team g.team same.0) (eq-eqb x.finder g.finder same.1))
    ((Decides-int_eq x.location g.location).1 same.2) in
    true≢false (sym all ∙ other)

made_once : (hs : List Hint) (g : Hint) → Pairs AreApart hs → Pairs AreApart (made hs g)
made_once hs g h =
    cond_both (is_some (hint_at hs g.team g.finder g.location)) hs (hs ++ g ∷ []) (Pairs AreApart) (λ _. h)
    (λ none. pairs_append AreApart hs (g ∷ []) h (tt, tt)
    (each_weaker (λ x. is_at g.team g.finder g.location x ≡ false) (λ x. Each (AreApart x) (g ∷ [])) (λ x other. (apart_from g x other, tt)) hs (no_hint hs g.team g.finder g.location none)))

each_marked : (y : Hint) (hs : List Hint) (t f : ℕ) (l : ℤ) (s : ℕ) → Each (AreApart y) hs → Each (AreApart y) (marked hs t f l s)
each_marked y [] t f l s h = tt
each_marked y (g ∷ gs) t f l s h =
    elim (is_at t f l g) as (λ b. Each (AreApart y) (cond b (with_status s g ∷ gs) (g ∷ marked gs t f l s))) [ true ↦ (h.0, h.1) | false ↦ (h.0, each_marked y gs t f l s h.1) ]

marked_once : (hs : List Hint) (t f : ℕ) (l : ℤ) (s : ℕ) → Pairs AreApart hs → Pairs AreApart (marked hs t f l s)
marked_once [] t f l s h = tt
marked_once (g ∷ gs) t f l s h =
    elim (is_at t f l g) as (λ b. Pairs AreApart (cond b (with_status s g ∷ gs) (g ∷ marked gs t f l s))) [ true ↦ (h.0, h.1) | false ↦ (each_marked g gs t f l s h.0, marked_once gs t f l s h.1) ]

hinted_once : (hs : List Hint) (r : Record) → Pairs AreApart hs → Pairs AreApart (hinted hs r)
hinted_once hs (checks t slot locations) h = h
hinted_once hs (release t slot) h = h
hinted_once hs (collect t slot) h = h
hinted_once hs (status t slot s) h = h
hinted_once hs (hint g) h = made_once hs g h
hinted_once hs (hint_status t f l s) h = marked_once hs t f l s h
hinted_once hs (store key value) h = h

steps_once : (seed : Seed) (s : Standing) (rs : List Record) → Pairs AreApart s.hints → Pairs AreApart (steps seed s rs).hints
steps_once seed s [] h = h
steps_once seed s (r ∷ rs) h = steps_once seed (step seed s r) rs (hinted_once s.hints r h)

made_again : (seed : Seed) (s : Standing) (h k : Hint) → hint_at s.hints h.team h.finder h.location ≡ Some k → step seed s (hint h) ≡ s
made_again seed s h k e =
    ap₂ (λ (cs : List Check) (hs : List Hint). let t : Standing = record { checked = cs; statuses = s.statuses; hints = hs; storage = s.storage } in t)
    (append-nil s.checked) (cond-true (is_some (hint_at s.hints h.team h.finder h.location)) s.hints (s.hints ++ h ∷ []) (ap is_some e))

pub hints_cost_once : HintsCostOnce
hints_cost_once seed journal =
    let s = standing seed journal in
    let once = steps_once seed start journal tt in
    record {
      hints = pairs_at AreApart s.hints once;
      bought = λ team slot. pairs_at AreApart (bought_by s.hints team slot) (pairs_filter AreApart (λ h. h.bought && (h.team == team) && (h.buyer == slot)) s.hints once);
      again = λ h k e. standing-append seed journal (hint h ∷ []) ∙ made_again seed s h k e;
    }
