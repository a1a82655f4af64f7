-- Which keys a session watches.
use Rattle.std.proofs.Common.{◌≡◌, ℕ, ◌+◌, ◌≤◌, ◌<◌, ◌||◌, List, Bool, true, false, ◌∷◌, [], ◌++◌, Option, Some, None, length, nat_le, bytes_eq, refl, sym, ap, subst, ◌∙◌, arith, length-append, IsTrue, IsFalse}
use Rattle.std.proofs.lemmas.Bool.{cond_both, or_right, false≢true, lt-leb}
use Rattle.std.proofs.lemmas.Slice.Eq.{bytes_eq-Decides}
use Rattle.mw_model.specs.Texts.{has_text}
use Rattle.mw_protocol.specs.Connecting.{Member}
use Rattle.mw_protocol.specs.Effects.{effect_of}
use Rattle.mw_protocol.specs.Packets.{set_notify}
use Rattle.mw_protocol.specs.Rooms.{members_in, affected}
use Rattle.mw_protocol.specs.Storage.{is_private}
use Rattle.mw_protocol.specs.Storing.{is_passed_over, watched, with_keys}
use Rattle.mw_laws.specs.Turns.{now}
use Rattle.mw_laws.specs.Watched.{watches, WatchersStay}
use Rattle.mw_laws.proofs.Effects.{MayBecome}
use Rattle.mw_laws.proofs.Quiet.{became}
use Rattle.mw_laws.proofs.Slots.{member_later}
use Rattle.mw_laws.proofs.Watching.{has_append, one_more, watched_keeps}

-- ---- keys that are given

-- a key that may be watched is
one_has : (keys : List (List ℕ)) (key : List ℕ) → is_private key ≡ false → length keys < 1024 → has_text (one_more keys key) key ≡ true
one_has keys key public short =
    cond_both (is_passed_over keys key) keys (keys ++ key ∷ []) (λ ks. has_text ks key ≡ true)
    (λ passed. by (is_private key) (has_text keys key) (nat_le 1024 (length keys)) passed public (lt-leb 1024 (length keys) short))
    (λ _. has_append keys (key ∷ []) key ∙ or_right (has_text keys key) (has_text (key ∷ []) key) (ap (λ b. b || false) ((bytes_eq-Decides key key).1 refl)))
  where
    by : (alone has full : Bool) → (alone || has || full) ≡ true → alone ≡ false → full ≡ false → has ≡ true
    by alone true full e f g = refl
    by true false full e f g = sym f
    by false false full e f g = sym g ∙ e

one_length : (keys : List (List ℕ)) (k : List ℕ) → length (one_more keys k) ≤ length keys + 1
one_length keys k =
    cond_both (is_passed_over keys k) keys (keys ++ k ∷ []) (λ ks. length ks ≤ length keys + 1) (λ _. omega arith) (λ _. let e = length-append keys (k ∷ []) in omega (arith, e))

given : (before keys : List (List ℕ)) (key : List ℕ) → IsTrue (has_text keys key) → IsFalse (is_private key) → length before + length keys ≤ 1024 → IsTrue (has_text (watched before keys) key)
given before [] key has public short = absurd (false≢true has)
given before (k ∷ ks) key has public short =
    elim (bytes_eq k key) as (λ b. bytes_eq k key ≡ b → (b || has_text ks key) ≡ true → has_text (watched (one_more before k) ks) key ≡ true) [
      | true ↦ λ is _.
          let same = sym ((bytes_eq-Decides k key).0 is) in
          watched_keeps (one_more before k) ks key (subst (λ l. has_text (one_more before l) key ≡ true) same (one_has before key public (omega (arith, short))))
      | false ↦ λ _ later. let one = one_length before k in given (one_more before k) ks key later public (omega (arith, one, short))
    ] refl has

-- ---- as long as it is open

still_watches : (key : List ℕ) (before after : Option Member) → MayBecome before after → IsTrue (watches key before) → IsTrue (watches key after)
still_watches key None after h has = absurd (false≢true has)
still_watches key (Some k) None h has = absurd h
still_watches key (Some k) (Some n) h has = h.2 key has

pub watchers_stay : WatchersStay
watchers_stay = record {
  asked = λ room number m keys is.
      ap (λ member. affected room number (effect_of room.seed (now room) (members_in room.sessions) member (set_notify keys))) is ∙ became room number (with_keys (watched m.keys keys) m);
  given = given;
  stay = λ seed turns more number m s key was has is. member_later (λ member. IsTrue (watches key member)) (still_watches key) seed turns more number m s has was is;
}
