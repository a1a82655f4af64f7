-- The steps at each place, split by whether they have to be asked.
use Rattle.std.proofs.Common.{◌≡◌, ℕ, ◌<◌, Bool, true, false, not, eqb, List, [], ◌∷◌, ◌++◌, Option, Some, None, length, map, refl, sym, ap, subst, ◌∙◌, inl, inr, arith}
use Rattle.std.specs.Prelude.{filter, flat_map}
use Rattle.std.proofs.lemmas.Bool.{false≢true, true≢false, cases_Bool, cases_lt, or_cases, or_left, or_right, and_parts, eqb-true, eq-eqb}
use Rattle.std.proofs.lemmas.List.{get_or-map, get_or_past, length-map, map-append, nil_from_length}
use Rattle.std.proofs.lemmas.List.Concat.{flat_map-cons}
use Rattle.std.proofs.lemmas.List.Filters.{length-filter_both}
use Rattle.mw_rules.specs.Holds.{places_of}
use Rattle.mw_rules.specs.Names.{is_among}
use Rattle.mw_rules.specs.Rule.{Rule, always, never, has, has_all, has_any, has_count, can_reach, all_of, some_of}
use Rattle.mw_rules.specs.Ruling.{rule_at}
use Rattle.mw_multi.specs.World.{Entrance, Location}
use Rattle.mw_multi.specs.Joint.{Slot, Joint}
use Rattle.mw_multi.specs.Placement.{numbers_at}
use Rattle.mw_multi.specs.Steps.{entrance_rule, location_rule, slot_rules, rule_list}
use Rattle.mw_reach.specs.Rows.{from_of, rule_of, step_of, steps_in}
use Rattle.mw_reach.specs.Tables.{step_at}
use Rattle.mw_reach.specs.Worklist.{AreRows, no_row, row_at}
use Rattle.mw_reach.specs.Split.{is_always, entrance_always, location_always, slot_always, always_list, AreAlways, starts_free, leads_to_leaf, is_asked, asked_numbers, row_to, leaf_places, IsLeaf, IsSplit}
use Rattle.mw_reach.specs.declared.row.Start.{Start}
use Rattle.mw_reach.specs.declared.row.Rows.{Rows}
use Rattle.mw_reach.specs.declared.split.Split.{Split}
use Rattle.mw_reach.proofs.Among.{among_place}
use Rattle.mw_reach.proofs.Waking.{step_at-map}

-- ---- rules that always hold

only_always : (rule : Rule) → is_always rule ≡ true → rule ≡ always
only_always always e = refl
only_always never e = absurd (false≢true e)
only_always (has i n) e = absurd (false≢true e)
only_always (has_all is) e = absurd (false≢true e)
only_always (has_any is) e = absurd (false≢true e)
only_always (has_count is n) e = absurd (false≢true e)
only_always (can_reach p) e = absurd (false≢true e)
only_always (all_of rs) e = absurd (false≢true e)
only_always (some_of rs) e = absurd (false≢true e)

of_entrances : (es : List Entrance) → map entrance_always es ≡ map is_always (map entrance_rule es)
of_entrances [] = refl
of_entrances (e ∷ es) = ap (λ bs. is_always e.rule ∷ bs) (of_entrances es)

of_locations : (ls : List Location) → map location_always ls ≡ map is_always (map location_rule ls)
of_locations [] = refl
of_locations (l ∷ ls) = ap (λ bs. is_always l.rule ∷ bs) (of_locations ls)

of_slot : (slot : Slot) → slot_always slot ≡ map is_always (slot_rules slot)
of_slot slot =
    let entrances = map entrance_rule slot.world.entrances in
    let locations = map location_rule slot.world.locations in
    let goal = slot.world.goal ∷ [] in
    ap (λ bs. bs ++ (map location_always slot.world.locations ++ map is_always goal)) (of_entrances slot.world.entrances)
    ∙ ap (λ bs. map is_always entrances ++ (bs ++ map is_always goal)) (of_locations slot.world.locations)
    ∙ ap (λ bs. map is_always entrances ++ bs) (sym (map-append is_always locations goal))
    ∙ sym (map-append is_always entrances (locations ++ goal))

of_slots : (slots : List Slot) → flat_map slot_always slots ≡ map is_always (flat_map slot_rules slots)
of_slots [] = refl
of_slots (s ∷ slots) =
    flat_map-cons slot_always s slots
    ∙ ap (λ bs. bs ++ flat_map slot_always slots) (of_slot s)
    ∙ ap (λ bs. map is_always (slot_rules s) ++ bs) (of_slots slots)
    ∙ sym (map-append is_always (slot_rules s) (flat_map slot_rules slots))
    ∙ ap (map is_always) (sym (flat_map-cons slot_rules s slots))

-- the flags that were gathered from the joint's rules
pub always_are : (joint : Joint) (free : List Bool) → free ≡ always_list joint → AreAlways joint free
always_are joint free is n e =
    let rules = rule_list joint in
    let flag : places_of (map is_always rules) n ≡ true = ap (λ bs. places_of bs n) (sym (of_slots joint.slots)) ∙ ap (λ bs. places_of bs n) (sym is) ∙ e in
    elim (cases_lt n (length rules)) [
      | inl within ↦ only_always (rule_at rules n) (sym (get_or-map is_always rules n never false within) ∙ flag)
      | inr past ↦
          let beyond : places_of (map is_always rules) n ≡ false = get_or_past (map is_always rules) n false (omega (arith, length-map rules is_always)) in
          absurd (true≢false (sym flag ∙ beyond))
    ]

-- ---- numbers that pass a test

passing : (test : ℕ → Bool) (ns : List ℕ) (n : ℕ) → is_among (filter test ns) n ≡ true → (is_among ns n ≡ true) × (test n ≡ true)
passing test [] n e = absurd (false≢true e)
passing test (m ∷ ns) n e = elim (cases_Bool (test m)) [
  | inl passes ↦ elim (or_cases (eqb m n) (is_among (filter test ns) n) (rw passes at e)) [
    | inl here ↦ (or_left (eqb m n) (is_among ns n) here, ap test (sym (eqb-true m n here)) ∙ passes)
    | inr later ↦ let rest = passing test ns n later in (or_right (eqb m n) (is_among ns n) rest.0, rest.1)
  ]
  | inr fails ↦ let rest = passing test ns n (rw fails at e) in (or_right (eqb m n) (is_among ns n) rest.0, rest.1)
]

passed_on : (test : ℕ → Bool) (ns : List ℕ) (n : ℕ) → is_among ns n ≡ true → test n ≡ true → is_among (filter test ns) n ≡ true
passed_on test [] n e t = absurd (false≢true e)
passed_on test (m ∷ ns) n e t = elim (or_cases (eqb m n) (is_among ns n) e) [
  | inl here ↦ let passes : test m ≡ true = ap test (eqb-true m n here) ∙ t in rw passes (or_left (eqb m n) (is_among (filter test ns) n) here)
  | inr later ↦ elim (cases_Bool (test m)) [
    | inl passes ↦ rw passes (or_right (eqb m n) (is_among (filter test ns) n) (passed_on test ns n later t))
    | inr fails ↦ rw fails (passed_on test ns n later t)
  ]
]

comes_from : (f : ℕ → ℕ) (ns : List ℕ) (t : ℕ) → is_among (map f ns) t ≡ true → (n : ℕ) × (is_among ns n ≡ true) × (f n ≡ t)
comes_from f [] t e = absurd (false≢true e)
comes_from f (m ∷ ns) t e = elim (or_cases (eqb (f m) t) (is_among (map f ns) t) e) [
  | inl here ↦ (m, or_left (eqb m m) (is_among ns m) (eq-eqb m m refl), eqb-true (f m) t here)
  | inr later ↦ let rest = comes_from f ns t later in (rest.0, or_right (eqb m rest.0) (is_among ns rest.0) rest.1, rest.2)
]

goes_along : (f : ℕ → ℕ) (ns : List ℕ) (n : ℕ) → is_among ns n ≡ true → is_among (map f ns) (f n) ≡ true
goes_along f [] n e = absurd (false≢true e)
goes_along f (m ∷ ns) n e = elim (or_cases (eqb m n) (is_among ns n) e) [
  | inl here ↦ or_left (eqb (f m) (f n)) (is_among (map f ns) (f n)) (eq-eqb (f m) (f n) (ap f (eqb-true m n here)))
  | inr later ↦ or_right (eqb (f m) (f n)) (is_among (map f ns) (f n)) (goes_along f ns n later)
]

-- ---- the split

free_start : (joint : Joint) (free : List Bool) → AreAlways joint free → (start : Option Start) (p : ℕ) → starts_free free start p ≡ true → (from_of start ≡ Some p) × (rule_of (rule_list joint) start ≡ always)
free_start joint free are None p e = absurd (false≢true e)
free_start joint free are (Some start) p e =
    let parts = and_parts (eqb start.from p) (places_of free start.rule) e in
    (ap Some (eqb-true start.from p parts.0), are start.rule parts.1)

module _ (joint : Joint) (places items : ℕ) (free : List Bool) (are : AreAlways joint free) (rows : Rows) (fit : AreRows joint places items rows) where
  abbrev leads : ℕ → ℕ → Bool
  leads = leads_to_leaf free rows.rows rows.by_place

  within_rows : (p n : ℕ) → is_among (numbers_at rows.by_place p) n ≡ true → n < length rows.rows
  within_rows p n e = omega (arith, among_place (steps_in joint rows) rows.origins rows.by_place rows.by_item fit.watched p n e, length-map rows.rows (step_of joint))

  step_is : (n : ℕ) → n < length rows.rows → step_at (steps_in joint rows) n ≡ step_of joint (row_at rows.rows n)
  step_is n h = step_at-map joint rows.rows n h

  leaf_of : (p n : ℕ) → is_among (numbers_at rows.by_place p) n ≡ true → leads p n ≡ true → IsLeaf (steps_in joint rows) rows.by_place p (row_to rows.rows n)
  leaf_of p n e l =
      let row = row_at rows.rows n in
      let h = within_rows p n e in
      let parts = and_parts (starts_free free row.start p) (eqb (length (numbers_at rows.by_place row.to)) 0) l in
      let start = free_start joint free are row.start p parts.0 in
      let to = (fit.fit n no_row h).to_fits in
      record {
        within = omega (arith, to, fit.places_fit);
        alone = nil_from_length (numbers_at rows.by_place row.to) (eqb-true (length (numbers_at rows.by_place row.to)) 0 parts.1);
        number = n;
        from_is = ap (λ s. s.from) (step_is n h) ∙ start.0;
        rule_is = ap (λ s. s.rule) (step_is n h) ∙ start.1;
        to_is = ap (λ s. s.to) (step_is n h);
      }

  pub split_made : (split : Split) → length split.asked ≡ length rows.by_place → length split.leaves ≡ length rows.by_place
      → ((p : ℕ) → p < length rows.by_place → numbers_at split.asked p ≡ asked_numbers free rows.rows rows.by_place p)
      → ((p : ℕ) → p < length rows.by_place → numbers_at split.leaves p ≡ leaf_places free rows.rows rows.by_place p)
      → IsSplit (steps_in joint rows) rows.by_place split
  split_made split asked_size leaves_size asked leaves =
      let by_place = rows.by_place in
      let all_asked : (p : ℕ) → numbers_at split.asked p ≡ asked_numbers free rows.rows by_place p = λ p. elim (cases_lt p (length by_place)) [
        | inl within ↦ asked p within
        | inr past ↦ get_or_past split.asked p [] (omega arith) ∙ sym (ap (filter (is_asked free rows.rows by_place p)) (get_or_past by_place p [] past))
      ] in
      let all_leaves : (p : ℕ) → numbers_at split.leaves p ≡ leaf_places free rows.rows by_place p = λ p. elim (cases_lt p (length by_place)) [
        | inl within ↦ leaves p within
        | inr past ↦ get_or_past split.leaves p [] (omega arith) ∙ sym (ap (λ ns. map (row_to rows.rows) (filter (leads p) ns)) (get_or_past by_place p [] past))
      ] in
      record {
        asked_size = asked_size;
        leaves_size = leaves_size;
        asked = λ p n e. (passing (is_asked free rows.rows by_place p) (numbers_at by_place p) n (ap (λ ns. is_among ns n) (sym (all_asked p)) ∙ e)).0;
        heard = λ p n e. elim (cases_Bool (leads p n)) [
          | inl leaf ↦
              let to : (step_at (steps_in joint rows) n).to ≡ row_to rows.rows n = ap (λ s. s.to) (step_is n (within_rows p n e)) in
              let there = goes_along (row_to rows.rows) (filter (leads p) (numbers_at by_place p)) n (passed_on (leads p) (numbers_at by_place p) n e leaf) in
              inr (rw (all_leaves p, to) there)
          | inr other ↦ inl (ap (λ ns. is_among ns n) (all_asked p) ∙ passed_on (is_asked free rows.rows by_place p) (numbers_at by_place p) n e (ap not other))
        ];
        fewer = λ p. omega (arith, ap length (all_asked p), length-filter_both (leads p) (is_asked free rows.rows by_place p) (λ n. refl) (numbers_at by_place p));
        leaves_are = λ p t e.
            let source = comes_from (row_to rows.rows) (filter (leads p) (numbers_at by_place p)) t (ap (λ ns. is_among ns t) (sym (all_leaves p)) ∙ e) in
            let both = passing (leads p) (numbers_at by_place p) source.0 source.1 in
            subst (λ to. IsLeaf (steps_in joint rows) by_place p to) source.2 (leaf_of p source.0 both.0 both.1);
      }
