-- Sessions by their number, and what telling leaves of one.
use Rattle.std.proofs.Common.{◌≡◌, ℕ, ◌+◌, ◌≤◌, ◌==◌, List, true, false, cond, ◌∷◌, [], ◌++◌, Some, None, is_some, map, unwrap_or, refl, sym, ap, subst, ◌∙◌, arith, true≢false, eqb-true}
use Rattle.std.proofs.lemmas.Bool.{cond_both}
use Rattle.mw_protocol.specs.Messages.{ServerPacket}
use Rattle.mw_protocol.specs.Rooms.{Message, Session, is_full, text_of, untaken, overrun_by, with_message, told, session_in, member_in, without, taken_all, taken_among}

pub some_same : {A : Type 0} (x y : A) → Some x ≡ Some y → x ≡ y
some_same x y e = ap (λ o. unwrap_or o x) e

pub none_some : {A : Type 0} (x : A) → None ≡ Some x → ⊥
none_some x e = true≢false (ap is_some (sym e))

-- ---- one that is told

-- whatever holds of a session, of it overrun and of it with the message, holds of it once it is told
pub told_any : (P : Session → Type 0) (packets : List ServerPacket) (length : ℕ) (s : Session)
    → P s → P (overrun_by s) → P (with_message record { packets = packets; carries = length } s) → P (told packets length s)
told_any P [] length s same over more = same
told_any P (p ∷ ps) length s same over more =
    let m : Message = record { packets = p ∷ ps; carries = length } in
    let full = is_full (map text_of (untaken s)) in
    cond_both s.overrun s (cond full (overrun_by s) (with_message m s)) P (λ _. same) (λ _. cond_both full (overrun_by s) (with_message m s) P (λ _. over) (λ _. more))

pub told_number : (packets : List ServerPacket) (length : ℕ) (s : Session) → (told packets length s).number ≡ s.number
told_number packets length s = told_any (λ t. t.number ≡ s.number) packets length s refl refl refl

-- ---- how many have a number

module _ (number : ℕ) where
  abbrev pub copies : List Session → ℕ
  copies [] = 0
  copies (s ∷ ss) = cond (s.number == number) 1 0 + copies ss

  pub none_copies : (ss : List Session) → session_in ss number ≡ None → copies ss ≡ 0
  none_copies [] none = refl
  none_copies (s ∷ ss) none =
      elim (s.number == number) as (λ b. cond b (Some s) (session_in ss number) ≡ None → cond b 1 0 + copies ss ≡ 0) [
        | true ↦ λ is. absurd (none_some s (sym is))
        | false ↦ λ later. omega (arith, none_copies ss later)
      ] none

  pub copies_none : (ss : List Session) → copies ss ≡ 0 → session_in ss number ≡ None
  copies_none [] none = refl
  copies_none (s ∷ ss) none =
      elim (s.number == number) as (λ b. cond b 1 0 + copies ss ≡ 0 → cond b (Some s) (session_in ss number) ≡ None) [
        | true ↦ λ some. absurd (omega (arith, some))
        | false ↦ λ later. copies_none ss (omega (arith, later))
      ] none

  pub copies_append : (ss ts : List Session) → copies (ss ++ ts) ≡ copies ss + copies ts
  copies_append [] ts = omega arith
  copies_append (s ∷ ss) ts = omega (arith, copies_append ss ts)

  pub copies_without : (other : ℕ) (ss : List Session) → copies (without other ss) ≤ copies ss
  copies_without other [] = omega arith
  copies_without other (s ∷ ss) =
      cond_both (s.number == other) ss (s ∷ without other ss) (λ ts. copies ts ≤ copies (s ∷ ss)) (λ _. omega arith) (λ _. omega (arith, copies_without other ss))

  pub copies_taken : (other : ℕ) (ss : List Session) → copies (taken_among other ss) ≡ copies ss
  copies_taken other [] = refl
  copies_taken other (s ∷ ss) =
      cond_both (s.number == other) (taken_all s ∷ ss) (s ∷ taken_among other ss) (λ ts. copies ts ≡ copies (s ∷ ss)) (λ _. refl) (λ _. omega (arith, copies_taken other ss))

  -- ---- who is found

  -- a session that is found has the number, and its member is found
  pub found_by : (ss : List Session) (s : Session) → session_in ss number ≡ Some s → (s.number ≡ number) × (member_in ss number ≡ s.member)
  found_by [] s e = absurd (none_some s e)
  found_by (t ∷ ts) s e =
      elim (t.number == number) as (λ b. (t.number == number) ≡ b → cond b (Some t) (session_in ts number) ≡ Some s → (s.number ≡ number) × (cond b t.member (member_in ts number) ≡ s.member)) [
        | true ↦ λ is same. (ap (λ u. u.number) (sym (some_same t s same)) ∙ eqb-true t.number number is, ap (λ u. u.member) (some_same t s same))
        | false ↦ λ _ later. found_by ts s later
      ] refl e

  -- who is found without some other was found, where no two have the number
  pub found_without : (other : ℕ) (ss : List Session) (s : Session) → copies ss ≤ 1 → session_in (without other ss) number ≡ Some s → session_in ss number ≡ Some s
  found_without other [] s few e = e
  found_without other (t ∷ ts) s few e =
      elim (t.number == other) as (λ b. session_in (cond b ts (t ∷ without other ts)) number ≡ Some s → session_in (t ∷ ts) number ≡ Some s) [
        | true ↦ λ later.
            elim (t.number == number) as (λ b. cond b 1 0 + copies ts ≤ 1 → cond b (Some t) (session_in ts number) ≡ Some s) [
              | true ↦ λ one. absurd (none_some s (sym (copies_none ts (omega (arith, one))) ∙ later))
              | false ↦ λ _. later
            ] few
        | false ↦ λ found.
            elim (t.number == number) as (λ b. cond b 1 0 + copies ts ≤ 1 → cond b (Some t) (session_in (without other ts) number) ≡ Some s → cond b (Some t) (session_in ts number) ≡ Some s) [
              | true ↦ λ _ is. is
              | false ↦ λ fewer later. found_without other ts s (omega (arith, fewer)) later
            ] few found
      ] e

  module _ (P : Session → Type 0) where
    pub found_taken : ((s : Session) → P s → P (taken_all s)) → (other : ℕ) (ss : List Session) → ((s : Session) → session_in ss number ≡ Some s → P s) → (s : Session) → session_in (taken_among other ss) number ≡ Some s → P s
    found_taken took other [] all s e = absurd (none_some s e)
    found_taken took other (t ∷ ts) all s e =
        elim (t.number == other) as (λ b. session_in (cond b (taken_all t ∷ ts) (t ∷ taken_among other ts)) number ≡ Some s → P s) [
          | true ↦ λ found.
              elim (t.number == number) as (λ b. ((u : Session) → cond b (Some t) (session_in ts number) ≡ Some u → P u) → cond b (Some (taken_all t)) (session_in ts number) ≡ Some s → P s) [
                | true ↦ λ each is. subst P (some_same (taken_all t) s is) (took t (each t refl))
                | false ↦ λ each later. each s later
              ] all found
          | false ↦ λ found.
              elim (t.number == number) as (λ b. ((u : Session) → cond b (Some t) (session_in ts number) ≡ Some u → P u) → cond b (Some t) (session_in (taken_among other ts) number) ≡ Some s → P s) [
                | true ↦ λ each is. each s is
                | false ↦ λ each later. found_taken took other ts each s later
              ] all found
        ] e

  -- sessions that keep their numbers, and others behind them
  module _ (f : Session → Session) (same : (s : Session) → (f s).number ≡ s.number) where
    pub copies_map : (ss : List Session) → copies (map f ss) ≡ copies ss
    copies_map [] = refl
    copies_map (s ∷ ss) = ap (λ n. cond (n == number) 1 0 + copies (map f ss)) (same s) ∙ ap (λ n. cond (s.number == number) 1 0 + n) (copies_map ss)

    pub found_among : (P : Session → Type 0) (ss ts : List Session) → ((s : Session) → session_in ss number ≡ Some s → P (f s)) → ((s : Session) → session_in ts number ≡ Some s → P s)
        → (s : Session) → session_in (map f ss ++ ts) number ≡ Some s → P s
    found_among P [] ts old new s e = new s e
    found_among P (t ∷ ss) ts old new s e =
        let others = session_in (map f ss ++ ts) number in
        let found : cond (t.number == number) (Some (f t)) others ≡ Some s = subst (λ n. cond (n == number) (Some (f t)) others ≡ Some s) (same t) e in
        elim (t.number == number) as (λ b. ((u : Session) → cond b (Some t) (session_in ss number) ≡ Some u → P (f u)) → cond b (Some (f t)) others ≡ Some s → P s) [
          | true ↦ λ each is. subst P (some_same (f t) s is) (each t refl)
          | false ↦ λ each later. found_among P ss ts each new s later
        ] old found
