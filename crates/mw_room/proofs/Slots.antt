-- Numbers of slots.
use Rattle.std.proofs.Common.{◌≡◌, ℕ, ℤ, pos, negsuc, zero, suc, ◌≤ℤ◌, ◌<◌, ◌==◌, ◌&&◌, ◌∷◌, [], List, All, true, false, cond, Option, Some, None, not, length, refl, sym, ap, ◌∙◌, subst, arith, true≢false}
use Rattle.std.proofs.lemmas.Bool.Decides.{Decides-and, Decides-eqb, Decides-int_eq}
use Rattle.std.proofs.lemmas.Int.{ints}
use Rattle.std.proofs.lemmas.List.Elements.{All-head, All-tail}
use Rattle.std.proofs.lemmas.Option.{slice_get_within}
use Rattle.std.specs.List.{slice_get}
use Rattle.std.specs.Ordering.{int_eq}
use Rattle.mw_model.specs.Seed.{Seed, Slot, Held, slot_of, held_among, held_at}
use Rattle.mw_protocol.specs.Connecting.{Member}
use Rattle.mw_protocol.specs.HintList.{hint_at}
use Rattle.mw_protocol.specs.Hints.{differs, receives}
use Rattle.mw_protocol.specs.Locating.{mark_record, slot_number}
use Rattle.mw_protocol.specs.Records.{hint_status}
use Rattle.mw_protocol.specs.Standing.{Standing, is_checked}
use Rattle.mw_multidata.specs.SeedKept.{IsSeed, HeldKept, game_of, has_location}

-- where there is no slot of the number, nothing stands there
none_among : (seed : Seed) (hs : List Held) (n : ℕ) (l : ℤ) → All (HeldKept seed) hs → slot_of seed n ≡ None → held_among hs n l ≡ None
none_among seed [] n l kept none = refl
none_among seed (h ∷ hs) n l kept none =
    (elim ((h.slot == n) && int_eq h.location l) as (λ b. ((h.slot == n) && int_eq h.location l) ≡ b → cond b (Some h) (held_among hs n l) ≡ None) [
      | true ↦ (λ is.
          let same : h.slot ≡ n = ((Decides-and _ _ (Decides-eqb h.slot n) (Decides-int_eq h.location l)).0 is).0 in
          let there : has_location (game_of seed.games (slot_of seed n)) h.location ≡ true = subst (λ (k : ℕ). has_location (game_of seed.games (slot_of seed k)) h.location ≡ true) same (All-head (HeldKept seed) h hs kept).location in
          absurd (true≢false (sym there ∙ ap (λ (o : Option Slot). has_location (game_of seed.games o) h.location) none)))
      | false ↦ (λ other. none_among seed hs n l (All-tail (HeldKept seed) h hs kept) none)
    ]) refl

no_slot : (seed : Seed) → IsSeed seed → (z : ℤ) → ((pos 1 ≤ℤ z) → (z ≤ℤ pos 1024) → ⊥) → slot_of seed (slot_number z) ≡ None
no_slot seed kept (negsuc n) out = refl
no_slot seed kept (pos zero) out = refl
no_slot seed kept (pos (suc n)) out =
    (elim (slice_get seed.slots n) as (λ o. slice_get seed.slots n ≡ o → o ≡ None) [
      | None ↦ (λ e. refl)
      | Some s ↦ (λ e.
          let within : n < length seed.slots = slice_get_within seed.slots n s e in
          absurd (out (omega (arith, ints)) (omega (arith, ints, within, kept.slots.few))))
    ]) refl

-- nothing stands at the locations of a number that is no slot's
pub nothing_there : (seed : Seed) → IsSeed seed → (z : ℤ) → ((pos 1 ≤ℤ z) → (z ≤ℤ pos 1024) → ⊥) → (l : ℤ) → held_at seed (slot_number z) l ≡ None
nothing_there seed kept z out l = none_among seed seed.locations (slot_number z) l kept.locations.each (no_slot seed kept z out)

-- a hint of where nothing stands gets no status
pub none_marked : (seed : Seed) (now : Standing) (m : Member) (finder : ℕ) (location : ℤ) (o : Option ℕ) → held_at seed finder location ≡ None → [] ≡ mark_record seed now m finder location o
none_marked seed now m finder location None e = refl
none_marked seed now m finder location (Some s) e =
    sym (ap (λ (h : Option Held). cond (receives seed m.slot h && not (is_checked now m.team finder location) && differs (hint_at now.hints m.team finder location) s) (hint_status m.team finder location s ∷ []) []) e)
