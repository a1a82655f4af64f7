-- Sessions whose messages carry so much more, and what is told to them.
use Rattle.std.proofs.Common.{◌≡◌, ℕ, ◌+◌, ◌==◌, List, Bool, true, false, cond, ◌∷◌, [], Some, map, max, nat_lt, refl, sym, ap, ap₂, ◌∙◌, ◌<◌, ◌≤◌, arith}
use Rattle.std.proofs.lemmas.Bool.{ltb-true, ltb-false}
use Rattle.std.proofs.lemmas.List.{drop-map, take-map, map-append, length-map}
use Rattle.mw_model.specs.Seed.{Seed}
use Rattle.mw_protocol.specs.Effect.{Effect}
use Rattle.mw_protocol.specs.Lives.{refused_to}
use Rattle.mw_protocol.specs.Messages.{ServerPacket}
use Rattle.mw_protocol.specs.Owed.{owed}
use Rattle.mw_protocol.specs.Rooms.{Message, Session, greatest, is_full, text_of, untaken, overrun_by, with_message, owing, told, session_in, member_in, or_more, members_in, without, member_after, with_member, session_after, taken_all, taken_among, untaken_of}
use Rattle.mw_protocol.specs.Standing.{Standing}
use Rattle.mw_thinning.specs.Histories.{Heard, heard, packets_in}

abbrev pub raised : ℕ → Message → Message
raised n m = record { packets = m.packets; carries = n + m.carries }

abbrev pub lifted : ℕ → Session → Session
lifted n s = record { number = s.number; member = s.member; owed = map (raised n) s.owed; taken = s.taken; overrun = s.overrun }

-- ---- messages

texts_raised : (n : ℕ) (ms : List Message) → map text_of (map (raised n) ms) ≡ map text_of ms
texts_raised n [] = refl
texts_raised n (m ∷ ms) = ap (λ ts. text_of m ∷ ts) (texts_raised n ms)

packets_raised : (n : ℕ) (ms : List Message) → map packets_in (map (raised n) ms) ≡ map packets_in ms
packets_raised n [] = refl
packets_raised n (m ∷ ms) = ap (λ ps. m.packets ∷ ps) (packets_raised n ms)

highest : (n : ℕ) (m : Message) (ms : List Message) → greatest (map (raised n) (m ∷ ms)) ≡ n + greatest (m ∷ ms)
highest n m [] = let more : max (n + m.carries) 0 ≡ n + max m.carries 0 = omega arith in more
highest n m (k ∷ ms) =
    let rest = highest n k ms in
    let more : max (n + m.carries) (n + greatest (k ∷ ms)) ≡ n + max m.carries (greatest (k ∷ ms)) = omega arith in
    ap (max (n + m.carries)) rest ∙ more

none_less : (c : ℕ) → nat_lt c 0 ≡ false
none_less c = by (nat_lt c 0) refl
  where
    by : (b : Bool) → nat_lt c 0 ≡ b → b ≡ false
    by true is = let less : c < 0 = ltb-true c 0 is in absurd (omega (arith, less))
    by false is = refl

shifted : (n c g : ℕ) → nat_lt (n + c) (n + g) ≡ nat_lt c g
shifted n c g = by (nat_lt (n + c) (n + g)) refl (nat_lt c g) refl
  where
    by : (a : Bool) → nat_lt (n + c) (n + g) ≡ a → (b : Bool) → nat_lt c g ≡ b → a ≡ b
    by true x true y = refl
    by false x false y = refl
    by true x false y = let less : n + c < n + g = ltb-true (n + c) (n + g) x in let not_less : g ≤ c = ltb-false c g y in absurd (omega (arith, less, not_less))
    by false x true y = let not_less : n + g ≤ n + c = ltb-false (n + c) (n + g) x in let less : c < g = ltb-true c g y in absurd (omega (arith, less, not_less))

-- what they carry, beside so much
pub greater_raised : (n c : ℕ) (ms : List Message) → nat_lt (n + c) (greatest (map (raised n) ms)) ≡ nat_lt c (greatest ms)
greater_raised n c [] = none_less (n + c) ∙ sym (none_less c)
greater_raised n c (m ∷ ms) = ap (nat_lt (n + c)) (highest n m ms) ∙ shifted n c (greatest (m ∷ ms))

-- ---- sessions

abbrev hearing : Session → List (List ServerPacket) → Heard
hearing s owed = record { number = s.number; member = s.member; owed = owed; taken = s.taken; overrun = s.overrun }

pub heard_lifted : (n : ℕ) (ss : List Session) → map heard (map (lifted n) ss) ≡ map heard ss
heard_lifted n [] = refl
heard_lifted n (s ∷ ss) =
    ap₂ (λ owed rest. hearing s owed ∷ rest) (packets_raised n s.owed) (heard_lifted n ss)

untaken_lifted : (n : ℕ) (s : Session) → untaken (lifted n s) ≡ map (raised n) (untaken s)
untaken_lifted n s = drop-map (raised n) s.taken s.owed

lifted_either : (n : ℕ) (b : Bool) (x y : Session) → cond b (lifted n x) (lifted n y) ≡ lifted n (cond b x y)
lifted_either n true x y = refl
lifted_either n false x y = refl

abbrev owing_list : Session → List Message → Session
owing_list s ms = record { number = s.number; member = s.member; owed = ms; taken = s.taken; overrun = s.overrun }

abbrev overrun_list : Session → List Message → Session
overrun_list s ms = record { number = s.number; member = s.member; owed = ms; taken = s.taken; overrun = true }

owing_lifted : (n : ℕ) (m : Message) (s : Session) → owing (raised n m) (lifted n s) ≡ lifted n (owing m s)
owing_lifted n m s =
    ap (λ texts. cond s.overrun (lifted n s) (cond (is_full texts) (overrun_by (lifted n s)) (with_message (raised n m) (lifted n s)))) (ap (map text_of) (untaken_lifted n s) ∙ texts_raised n (untaken s))
    ∙ ap₂ (λ over more. cond s.overrun (lifted n s) (cond (is_full (map text_of (untaken s))) over more))
    (ap (overrun_list s) (take-map (raised n) s.taken s.owed)) (ap (owing_list s) (sym (map-append (raised n) s.owed (m ∷ []))))
    ∙ ap (cond s.overrun (lifted n s)) (lifted_either n (is_full (map text_of (untaken s))) (overrun_by s) (with_message m s))
    ∙ lifted_either n s.overrun s (cond (is_full (map text_of (untaken s))) (overrun_by s) (with_message m s))

pub told_lifted : (ps : List ServerPacket) (n carries : ℕ) (s : Session) → told ps (n + carries) (lifted n s) ≡ lifted n (told ps carries s)
told_lifted [] n carries s = refl
told_lifted (p ∷ ps) n carries s = owing_lifted n record { packets = p ∷ ps; carries = carries } s

module _ (seed : Seed) (before after : Standing) (effect : Effect) (sender n carries : ℕ) where
  pub after_lifted : (ss : List Session) → map (session_after seed before after (n + carries) effect sender) (map (lifted n) ss) ≡ map (lifted n) (map (session_after seed before after carries effect sender) ss)
  after_lifted [] = refl
  after_lifted (s ∷ ss) =
      let member = member_after effect (s.number == sender) s.member in
      ap₂ (λ t ts. t ∷ ts) (told_lifted (owed seed before after effect (s.number == sender) member) n carries (with_member member s)) (after_lifted ss)

-- ---- by their numbers

pub member_in_lifted : (n number : ℕ) (ss : List Session) → member_in (map (lifted n) ss) number ≡ member_in ss number
member_in_lifted n number [] = refl
member_in_lifted n number (s ∷ ss) = ap (cond (s.number == number) s.member) (member_in_lifted n number ss)

pub members_lifted : (n : ℕ) (ss : List Session) → members_in (map (lifted n) ss) ≡ members_in ss
members_lifted n [] = refl
members_lifted n (s ∷ ss) = ap (or_more s.member) (members_lifted n ss)

pub refused_lifted : (n number : ℕ) (ending : Bool) (ss : List Session) → refused_to ending (session_in (map (lifted n) ss) number) ≡ refused_to ending (session_in ss number)
refused_lifted n number ending [] = refl
refused_lifted n number ending (s ∷ ss) =
    elim (s.number == number) as (λ b. refused_to ending (cond b (Some (lifted n s)) (session_in (map (lifted n) ss) number)) ≡ refused_to ending (cond b (Some s) (session_in ss number))) [
      | true ↦ refl
      | false ↦ refused_lifted n number ending ss
    ]

pub found_lifted : (n number : ℕ) (ss : List Session) → untaken_of (session_in (map (lifted n) ss) number) ≡ map (raised n) (untaken_of (session_in ss number))
found_lifted n number [] = refl
found_lifted n number (s ∷ ss) =
    elim (s.number == number) as (λ b. untaken_of (cond b (Some (lifted n s)) (session_in (map (lifted n) ss) number)) ≡ map (raised n) (untaken_of (cond b (Some s) (session_in ss number)))) [
      | true ↦ untaken_lifted n s
      | false ↦ found_lifted n number ss
    ]

pub texts_lifted : (n number : ℕ) (ss : List Session) → map text_of (untaken_of (session_in (map (lifted n) ss) number)) ≡ map text_of (untaken_of (session_in ss number))
texts_lifted n number ss = ap (map text_of) (found_lifted n number ss) ∙ texts_raised n (untaken_of (session_in ss number))

pub without_lifted : (n number : ℕ) (ss : List Session) → without number (map (lifted n) ss) ≡ map (lifted n) (without number ss)
without_lifted n number [] = refl
without_lifted n number (s ∷ ss) =
    elim (s.number == number) as (λ b. cond b (map (lifted n) ss) (lifted n s ∷ without number (map (lifted n) ss)) ≡ map (lifted n) (cond b ss (s ∷ without number ss))) [
      | true ↦ refl
      | false ↦ ap (λ ts. lifted n s ∷ ts) (without_lifted n number ss)
    ]

abbrev taken_list : Session → List Message → ℕ → Session
taken_list s ms count = record { number = s.number; member = s.member; owed = ms; taken = count; overrun = s.overrun }

pub taken_lifted : (n number : ℕ) (ss : List Session) → taken_among number (map (lifted n) ss) ≡ map (lifted n) (taken_among number ss)
taken_lifted n number [] = refl
taken_lifted n number (s ∷ ss) =
    elim (s.number == number) as (λ b. cond b (taken_all (lifted n s) ∷ map (lifted n) ss) (lifted n s ∷ taken_among number (map (lifted n) ss)) ≡ map (lifted n) (cond b (taken_all s ∷ ss) (s ∷ taken_among number ss))) [
      | true ↦ ap (λ count. taken_list s (map (raised n) s.owed) count ∷ map (lifted n) ss) (length-map s.owed (raised n))
      | false ↦ ap (λ ts. lifted n s ∷ ts) (taken_lifted n number ss)
    ]
