-- The fields of records: what is read is their spelling, and their spelling is read again.
use Rattle.std.proofs.Common.{◌≡◌, ℕ, ℤ, zero, suc, pos, negsuc, ◌^◌, ◌<◌, ◌≤◌, ◌&&◌, ◌==◌, Bool, true, false, cond, ltb, List, [], ◌∷◌, ◌++◌, length, take, drop, Option, Some, None, refl, sym, ap, subst, ◌∙◌, append_assoc, arith, le→leb, leb→le, lt→ltb, ltb→lt}
use Rattle.std.specs.Prelude.{IsTrue, bytes_eq, nat_le}
use Rattle.std.specs.Int.{w16, w32, to_be_bytes}
use Rattle.std.specs.Int.Signed.{mag}
use Rattle.std.specs.List.{flat_map, AllByRecursion}
use Rattle.std.specs.Str.{is_utf8}
use Rattle.std.proofs.lemmas.Bool.{ltb-true, ltb-false, le-ltb, le-leb, leb-true}
use Rattle.std.proofs.lemmas.List.{take_at, drop_at, take-append-drop, length-append, length-take}
use Rattle.std.proofs.lemmas.List.Concat.{flat_map-cons}
use Rattle.std.proofs.lemmas.Slice.Eq.{bytes_eq-Decides}
use Rattle.std.proofs.lemmas.Str.{IsUtf8-from_is_utf8, is_utf8-from_IsUtf8}
use Rattle.mw_model.specs.Json.{Json, depth}
use Rattle.mw_model.specs.Spelling.{spelling}
use Rattle.mw_model.specs.Statuses.{is_client_status, is_hint_status}
use Rattle.mw_protocol.specs.Spelled.{place_bytes, location_bytes, locations_bytes, flag_byte, text_bytes, IsSlot, IsPlace, IsLocation, IsTarget, AreLocations, IsValue, IsKey}
use Rattle.mw_json.specs.KeptReading.{kept_reading, IsKeptReading}
use Rattle.mw_json.specs.Reading.{max_depth}
use Rattle.mw_json.proofs.KeptAgain.{keeps_back}
use Rattle.mw_records.specs.Reading.{◌>>=◌, IsRead, number_at, passing, is_team, is_slot, is_location, is_flag, is_count, team_at, slot_at, client_status_at, hint_status_at, location_at, flag_at, place_at, target_at, offer_at, terms_at, each_location, locations_at, split_at, text_at, key_at, is_writable, is_compact, compact_value, value_of, value_at}
use Rattle.mw_records.proofs.Spelling.{IsBytes, IsBytes-drop, bind_some, guard_none, guard_some, some_is, Takes, Takes-then, IsField, fits_as, passing_is, seen_is, pair_is, byte_is, two_bytes_is, four_bytes_is, eight_bytes_is}
use Rattle.mw_records.proofs.Values.{and_left, and_right, both, same_bytes, tests_writable, kept_valid, own_value, own_text}

-- ---- fields

team_is : IsField team_at (λ n. n ∷ []) (λ n. n < 8)
unfolding team_at
team_is = fits_as (passing_is byte_is is_team) (λ n h. ltb-true n 8 h.1) (λ n h. (omega arith, le-leb _ _ h))

slot_is : IsField slot_at (to_be_bytes w16) IsSlot
unfolding slot_at
slot_is =
    fits_as (passing_is two_bytes_is is_slot) (λ n h. (leb-true 1 n (and_left (nat_le 1 n) (nat_le n 1024) h.1), leb-true n 1024 (and_right (nat_le 1 n) (nat_le n 1024) h.1)))
    (λ n h. (omega (arith, h.1), both (nat_le 1 n) (nat_le n 1024) (le-leb _ _ h.0) (le-leb _ _ h.1)))

pub client_status_is : IsField client_status_at (λ n. n ∷ []) (λ n. IsTrue (is_client_status n))
unfolding client_status_at
client_status_is = fits_as (passing_is byte_is is_client_status) (λ n h. h.1) (λ n h. (grind (arith, h), h))

pub hint_status_is : IsField hint_status_at (λ n. n ∷ []) (λ n. IsTrue (is_hint_status n))
unfolding hint_status_at
hint_status_is = fits_as (passing_is byte_is is_hint_status) (λ n h. h.1) (λ n h. (grind (arith, h), h))

is_one_to : (n : ℕ) → n < 2 ^ 64 → is_location n ≡ true → IsLocation (pos n)
is_one_to n small e =
    let low : 1 ≤ n = leb-true 1 n (and_left (nat_le 1 n) (ltb n (2 ^ 53)) e) in
    let high : n < 2 ^ 53 = ltb-true n (2 ^ 53) (and_right (nat_le 1 n) (ltb n (2 ^ 53)) e) in
    (record { le = le→leb 1 n low }, record { lt = lt→ltb n (2 ^ 53) high })

in_range : (l : ℤ) → IsLocation l → (mag l < 2 ^ 64) × (is_location (mag l) ≡ true)
in_range (pos n) h =
    let low : 1 ≤ n = leb→le 1 n h.0.le in
    let high : n < 2 ^ 53 = ltb→lt n (2 ^ 53) h.1.lt in
    (omega (arith, high), both (nat_le 1 n) (ltb n (2 ^ 53)) (le-leb _ _ low) (le-leb _ _ high))
in_range (negsuc n) h = absurd h.0.le

same_location : (l : ℤ) → IsLocation l → pos (mag l) ≡ l
same_location (pos n) h = refl
same_location (negsuc n) h = absurd h.0.le

location_is : IsField location_at location_bytes IsLocation
unfolding location_at
location_is = seen_is (passing_is eight_bytes_is is_location) pos mag IsLocation (λ n h. refl) (λ n h. is_one_to n h.0 h.1) in_range same_location

flag_same : (n : ℕ) → is_flag n ≡ true → flag_byte (n == 1) ∷ [] ≡ n ∷ []
flag_same zero e = refl
flag_same (suc zero) e = refl
flag_same (suc (suc n)) e = absurd (omega (arith, ltb-true (suc (suc n)) 2 e))

is_one : ℕ → Bool
is_one n = n == 1

flag_fits : (b : Bool) → Unit {0} → (flag_byte b < 256) × (is_flag (flag_byte b) ≡ true)
flag_fits true h = (omega arith, refl)
flag_fits false h = (omega arith, refl)

flag_again : (b : Bool) → Unit {0} → (flag_byte b == 1) ≡ b
flag_again true h = refl
flag_again false h = refl

flag_is : IsField flag_at (λ b. flag_byte b ∷ []) (λ b. Unit {0})
unfolding flag_at
flag_is = seen_is (passing_is byte_is is_flag) (λ n. n == 1) flag_byte (λ b. Unit {0}) (λ n h. flag_same n h.1) (λ n h. tt) flag_fits flag_again

-- ---- fields together

abbrev pub place_spelling : ℕ × ℕ → List ℕ
place_spelling p = place_bytes p.0 p.1

abbrev pub PlaceFits : ℕ × ℕ → Type 0
PlaceFits p = IsPlace p.0 p.1

pub place_is : IsField place_at place_spelling PlaceFits
unfolding place_at
place_is = pair_is team_is slot_is

abbrev pub target_spelling : (ℕ × ℕ) × ℤ → List ℕ
target_spelling t = place_spelling t.0 ++ location_bytes t.1

abbrev pub TargetFits : (ℕ × ℕ) × ℤ → Type 0
TargetFits t = IsTarget t.0.0 t.0.1 t.1

pub target_is : IsField target_at target_spelling TargetFits
unfolding target_at
target_is = pair_is place_is location_is

abbrev pub offer_spelling : Bool × ℕ → List ℕ
offer_spelling o = flag_byte o.0 ∷ to_be_bytes w16 o.1

abbrev pub OfferFits : Bool × ℕ → Type 0
OfferFits o = Unit {0} × IsSlot o.1

offer_is : IsField offer_at offer_spelling OfferFits
unfolding offer_at
offer_is = pair_is flag_is slot_is

abbrev pub terms_spelling : (Bool × ℕ) × ℕ → List ℕ
terms_spelling t = offer_spelling t.0 ++ t.1 ∷ []

abbrev pub TermsFit : (Bool × ℕ) × ℕ → Type 0
TermsFit t = OfferFits t.0 × IsTrue (is_hint_status t.1)

pub terms_is : IsField terms_at terms_spelling TermsFit
unfolding terms_at
terms_is = pair_is offer_is hint_status_is

-- ---- locations

abbrev front_of : ℤ → List ℤ × List ℕ → Option (List ℤ × List ℕ)
front_of first others = Some (first ∷ others.0, others.1)

abbrev and_others : ℕ → ℤ × List ℕ → Option (List ℤ × List ℕ)
and_others n first = each_location n first.1 >>= front_of first.0

abbrev EachTaken : ℕ → List ℕ → List ℤ × List ℕ → Type 0
EachTaken n bytes x = Takes bytes (flat_map location_bytes x.0) x.1 × (length x.0 ≡ n) × AllByRecursion IsLocation x.0

each_takes : (n : ℕ) (bytes : List ℕ) (x : List ℤ × List ℕ) → IsBytes bytes → each_location n bytes ≡ Some x → EachTaken n bytes x
unfolding each_location
each_takes zero bytes x fits e =
    let none : List ℤ × List ℕ = ([], bytes) in
    subst (EachTaken 0 bytes) (some_is none x e) (record { parts = refl; rest_fits = fits }, refl, tt)
each_takes (suc n) bytes x fits e =
    let a = bind_some (location_at bytes) (and_others n) x e in
    let b = bind_some (each_location n a.0.1) (front_of a.0.0) x a.2 in
    let first = location_is.takes bytes a.0 fits a.1 in
    let second = each_takes n a.0.1 b.0 first.0.rest_fits b.1 in
    let joined = Takes-then bytes (location_bytes a.0.0) a.0.1 (flat_map location_bytes b.0.0) b.0.1 first.0 second.0 in
    let found : List ℤ × List ℕ = (a.0.0 ∷ b.0.0, b.0.1) in
    subst (EachTaken (suc n) bytes) (some_is found x b.2) (rw flat_map-cons joined, ap suc second.1, (first.1, second.2))

each_again : (ls : List ℤ) (rest : List ℕ) → AllByRecursion IsLocation ls → each_location (length ls) (flat_map location_bytes ls ++ rest) ≡ Some (ls, rest)
unfolding each_location
each_again [] rest fits = refl
each_again (l ∷ ls) rest fits =
    let regrouped : flat_map location_bytes (l ∷ ls) ++ rest ≡ location_bytes l ++ (flat_map location_bytes ls ++ rest) =
    ap (λ (x : List ℕ). x ++ rest) (flat_map-cons location_bytes l ls) ∙ append_assoc (location_bytes l) (flat_map location_bytes ls) rest in
    ap (each_location (suc (length ls))) regrouped
    ∙ ap (λ (r : Option (ℤ × List ℕ)). r >>= and_others (length ls)) (location_is.again l (flat_map location_bytes ls ++ rest) fits.0)
    ∙ ap (λ (r : Option (List ℤ × List ℕ)). r >>= front_of l) (each_again ls rest fits.1)

count_is : IsField (λ bytes. passing is_count (number_at w32 bytes)) (to_be_bytes w32) (λ n. (n < 2 ^ 32) × (is_count n ≡ true))
count_is = passing_is four_bytes_is is_count

abbrev counted : ℕ × List ℕ → Option (List ℤ × List ℕ)
counted count = each_location count.0 count.1

abbrev LocationsTaken : List ℕ → List ℤ × List ℕ → Type 0
LocationsTaken bytes x = Takes bytes (locations_bytes x.0) x.1 × AreLocations x.0

pub locations_is : IsField locations_at locations_bytes AreLocations
unfolding locations_at
locations_is = record {
  takes = λ bytes x fits e.
      let a = bind_some (passing is_count (number_at w32 bytes)) counted x e in
      let first = count_is.takes bytes a.0 fits a.1 in
      let second = each_takes a.0.0 a.0.1 x first.0.rest_fits a.2 in
      let joined = Takes-then bytes (to_be_bytes w32 a.0.0) a.0.1 (flat_map location_bytes x.0) x.1 first.0 second.0 in
      let some : 1 ≤ a.0.0 = leb-true 1 a.0.0 first.1.1 in (
        subst (λ (n : ℕ). Takes bytes (to_be_bytes w32 n ++ flat_map location_bytes x.0) x.1) (sym second.1) joined,
        (omega (arith, some, second.1), omega (arith, first.1.0, second.1), second.2),
      );
  again = λ ls rest h.
      ap (λ (bytes : List ℕ). passing is_count (number_at w32 bytes) >>= counted) (append_assoc (to_be_bytes w32 (length ls)) (flat_map location_bytes ls) rest)
      ∙ ap (λ (r : Option (ℕ × List ℕ)). r >>= counted) (count_is.again (length ls) (flat_map location_bytes ls ++ rest) (h.1, le-leb _ _ h.0))
      ∙ each_again ls rest h.2;
}

-- ---- texts

abbrev pub TextFits : List ℕ → Type 0
TextFits text = length text < 2 ^ 32

abbrev so_many : ℕ × List ℕ → Option (List ℕ × List ℕ)
so_many n = split_at n.0 n.1

text_is : IsField text_at text_bytes TextFits
unfolding text_at
text_is = record {
  takes = λ bytes x fits e.
      let a = bind_some (number_at w32 bytes) so_many x e in
      let n = a.0 in
      let first = four_bytes_is.takes bytes n fits a.1 in
      let found : List ℕ × List ℕ = (take n.0 n.1, drop n.0 n.1) in
      let g = guard_none (ltb (length n.1) n.0) found x a.2 in
      let long : n.0 ≤ length n.1 = ltb-false _ _ g.0 in
      let len : length (take n.0 n.1) ≡ n.0 = omega (arith, length-take n.0 n.1) in
      let second : Takes n.1 (take n.0 n.1) (drop n.0 n.1) = record { parts = sym (take-append-drop n.0 n.1); rest_fits = IsBytes-drop n.0 n.1 first.0.rest_fits } in
      let joined = Takes-then bytes (to_be_bytes w32 n.0) n.1 (take n.0 n.1) (drop n.0 n.1) first.0 second in
      let whole : Takes bytes (text_bytes (take n.0 n.1)) (drop n.0 n.1) = subst (λ (k : ℕ). Takes bytes (to_be_bytes w32 k ++ take n.0 n.1) (drop n.0 n.1)) (sym len) joined in
      subst (λ (p : List ℕ × List ℕ). Takes bytes (text_bytes p.0) p.1 × TextFits p.0) g.1 (whole, omega (arith, first.1));
  again = λ text rest h.
      let long : ltb (length (text ++ rest)) (length text) ≡ false = le-ltb _ _ (omega (arith, length-append text rest)) in
      ap (λ (bytes : List ℕ). number_at w32 bytes >>= so_many) (append_assoc (to_be_bytes w32 (length text)) text rest)
      ∙ ap (λ (r : Option (ℕ × List ℕ)). r >>= so_many) (four_bytes_is.again (length text) (text ++ rest) h)
      ∙ rw (long, take_at text rest (length text) refl, drop_at text rest (length text) refl) refl;
}

pub key_is : IsField key_at text_bytes IsKey
unfolding key_at
key_is = fits_as (passing_is text_is is_utf8) (λ key h. (IsUtf8-from_is_utf8 key h.1, h.0)) (λ key h. (h.1, is_utf8-from_IsUtf8 key h.0))

-- ---- values

compact_some : (text : List ℕ) (o : Option Json) (v : Json) → compact_value text o ≡ Some v → (o ≡ Some v) × (nat_le (depth v) max_depth ≡ true) × (is_compact text v ≡ true)
compact_some text None v e = absurd cc
compact_some text (Some j) v e =
    let g = guard_some (nat_le (depth j) max_depth && is_compact text j) j v e in
    let both : (nat_le (depth v) max_depth && is_compact text v) ≡ true = rw (← g.1) g.0 in
    (ap (λ (x : Json). Some x) g.1, and_left (nat_le (depth v) max_depth) (is_compact text v) both, and_right (nat_le (depth v) max_depth) (is_compact text v) both)

where_some : {A : Type 0} (b : Bool) (o : Option A) (v : A) → cond b o None ≡ Some v → (b ≡ true) × (o ≡ Some v)
where_some true o v e = (refl, e)
where_some false o v e = absurd cc

value_read : (text : List ℕ) (v : Json) → value_of text ≡ Some v → IsRead text v × (true ≡ is_compact text v)
unfolding value_of
value_read text v e =
    let a = where_some (is_utf8 text) (compact_value text (kept_reading text)) v e in
    let b = compact_some text (kept_reading text) v a.1 in
    let stands : IsKeptReading text v = record { utf8 = IsUtf8-from_is_utf8 text a.0; is = b.0 } in
    (record { stands = stands; valid = kept_valid text v stands; shallow = leb-true (depth v) max_depth b.1 }, sym b.2)

spelled_so : (text : List ℕ) (v : Json) → true ≡ is_compact text v → spelling v ≡ text
unfolding is_compact
spelled_so text v e = same_bytes (spelling v) text (and_right (is_writable v) (bytes_eq (spelling v) text) (sym e))

compact_itself : (v : Json) → IsValue v → true ≡ is_compact (spelling v) v
unfolding is_compact
compact_itself v h = sym (both (is_writable v) (bytes_eq (spelling v) (spelling v)) (tests_writable v h.writable) ((bytes_eq-Decides (spelling v) (spelling v)).1 refl))

reads_itself : (v : Json) → IsValue v → IsRead (spelling v) v
reads_itself v h =
    let stands : IsKeptReading (spelling v) v = record { utf8 = h.text; is = keeps_back v h.writable h.ordered h.shallow } in
    record { stands = stands; valid = kept_valid (spelling v) v stands; shallow = h.shallow }

abbrev pub value_spelling : Json → List ℕ
value_spelling v = text_bytes (spelling v)

abbrev with_rest : List ℕ → Json → Option (Json × List ℕ)
with_rest rest value = Some (value, rest)

abbrev valued : List ℕ × List ℕ → Option (Json × List ℕ)
valued text = value_of text.0 >>= with_rest text.1

pub value_is : IsField value_at value_spelling IsValue
unfolding value_at
value_is = record {
  takes = λ bytes x fits e.
      let a = bind_some (text_at bytes) valued x e in
      let b = bind_some (value_of a.0.0) (with_rest a.0.1) x a.2 in
      let first = text_is.takes bytes a.0 fits a.1 in
      let r = value_read a.0.0 b.0 b.1 in
      let here : Takes bytes (value_spelling b.0) a.0.1 = subst (λ (text : List ℕ). Takes bytes (text_bytes text) a.0.1) (sym (spelled_so a.0.0 b.0 r.1)) first.0 in
      let found : Json × List ℕ = (b.0, a.0.1) in
      subst (λ (z : Json × List ℕ). Takes bytes (value_spelling z.0) z.1 × IsValue z.0) (some_is found x b.2) (here, own_value a.0.0 b.0 r.0 r.1 first.1);
  again = λ v rest h.
      ap (λ (r : Option (List ℕ × List ℕ)). r >>= valued) (text_is.again (spelling v) rest h.short)
      ∙ ap (λ (r : Option Json). r >>= with_rest rest) (own_text (spelling v) v (reads_itself v h) (compact_itself v h));
}
