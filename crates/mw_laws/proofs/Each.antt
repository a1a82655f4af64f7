-- What holds of each session of a list.
use Rattle.std.proofs.Common.{◌≡◌, ℕ, ◌==◌, List, true, false, cond, ◌∷◌, [], ◌++◌, Some, None, map, unwrap_or, sym, ap, subst, true≢false, is_some, ◌∙◌, eqb-true, refl}
use Rattle.mw_protocol.specs.Rooms.{Session, session_in, member_in, without, taken_all, taken_among}

abbrev pub Each : {X : Type 0} → (X → Type 0) → List X → Type 0
Each P [] = Unit {0}
Each P (x ∷ xs) = P x × Each P xs

module _ {X : Type 0} (P : X → Type 0) where
  pub each_any : ((x : X) → P x) → (xs : List X) → Each P xs
  each_any f [] = tt
  each_any f (x ∷ xs) = (f x, each_any f xs)

  pub each_weaker : (Q : X → Type 0) → ((x : X) → P x → Q x) → (xs : List X) → Each P xs → Each Q xs
  each_weaker Q f [] h = tt
  each_weaker Q f (x ∷ xs) h = (f x h.0, each_weaker Q f xs h.1)

  pub each_with : (Q R : X → Type 0) → ((x : X) → P x → Q x → R x) → (xs : List X) → Each P xs → Each Q xs → Each R xs
  each_with Q R f [] h k = tt
  each_with Q R f (x ∷ xs) h k = (f x h.0 k.0, each_with Q R f xs h.1 k.1)

  pub each_map : {Y : Type 0} (f : Y → X) (ys : List Y) → Each (λ y. P (f y)) ys → Each P (map f ys)
  each_map f [] h = tt
  each_map f (y ∷ ys) h = (h.0, each_map f ys h.1)

  pub each_push : (xs : List X) (x : X) → Each P xs → P x → Each P (xs ++ x ∷ [])
  each_push [] x h p = (p, tt)
  each_push (y ∷ xs) x h p = (h.0, each_push xs x h.1 p)

pub some_same : {A : Type 0} (x y : A) → Some x ≡ Some y → x ≡ y
some_same x y e = ap (λ o. unwrap_or o x) e

pub none_some : {A : Type 0} (x : A) → None ≡ Some x → ⊥
none_some x e = true≢false (ap is_some (sym e))

module _ (P : Session → Type 0) where
  -- it holds of the one of a number
  pub each_in : (ss : List Session) (number : ℕ) (s : Session) → session_in ss number ≡ Some s → Each P ss → P s
  each_in [] number s e h = absurd (none_some s e)
  each_in (t ∷ ts) number s e h =
      elim (t.number == number) as (λ b. cond b (Some t) (session_in ts number) ≡ Some s → P s) [
        | true ↦ λ same. subst P (some_same t s same) h.0
        | false ↦ λ later. each_in ts number s later h.1
      ] e

  pub each_without : (number : ℕ) (ss : List Session) → Each P ss → Each P (without number ss)
  each_without number [] h = tt
  each_without number (s ∷ ss) h =
      elim (s.number == number) as (λ b. Each P (cond b ss (s ∷ without number ss))) [ true ↦ h.1 | false ↦ (h.0, each_without number ss h.1) ]

-- what each session has leaves each another, once that of a number has taken its messages
pub each_took : (P Q : Session → Type 0) (number : ℕ) → ((s : Session) → P s → Q s) → ((s : Session) → s.number ≡ number → P s → Q (taken_all s)) → (ss : List Session) → Each P ss → Each Q (taken_among number ss)
each_took P Q number other own [] h = tt
each_took P Q number other own (s ∷ ss) h =
    elim (s.number == number) as (λ b. (s.number == number) ≡ b → Each Q (cond b (taken_all s ∷ ss) (s ∷ taken_among number ss))) [
      | true ↦ λ is. (own s (eqb-true s.number number is) h.0, each_weaker P Q other ss h.1)
      | false ↦ λ _. (other s h.0, each_took P Q number other own ss h.1)
    ] refl

pub each_taken : (P : Session → Type 0) (number : ℕ) → ((s : Session) → P s → P (taken_all s)) → (ss : List Session) → Each P ss → Each P (taken_among number ss)
each_taken P number f = each_took P P number (λ s h. h) (λ s _. f s)

-- a session that is found by a number has it, and its member is found by it
pub found_by : (ss : List Session) (number : ℕ) (s : Session) → session_in ss number ≡ Some s → (s.number ≡ number) × (member_in ss number ≡ s.member)
found_by [] number s e = absurd (none_some s e)
found_by (t ∷ ts) number s e =
    elim (t.number == number) as (λ b. (t.number == number) ≡ b → cond b (Some t) (session_in ts number) ≡ Some s → (s.number ≡ number) × (cond b t.member (member_in ts number) ≡ s.member)) [
      | true ↦ λ is same. (ap (λ u. u.number) (sym (some_same t s same)) ∙ eqb-true t.number number is, ap (λ u. u.member) (some_same t s same))
      | false ↦ λ is later. found_by ts number s later
    ] refl e
