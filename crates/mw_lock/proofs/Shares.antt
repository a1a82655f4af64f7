-- The steps that make passes, and that let them meet, keep the rule.
use Rattle.std.proofs.Common.{◌≡◌, ◌≢◌, ℕ, ◌+◌, ◌^◌, ◌<◌, ◌≤◌, eqb, Bool, true, cond, List, [], ◌∷◌, ◌++◌, length, get_or, set, sym, refl, ap, ◌∙◌, subst, ⊎_elim, inl, inr, arith, eq-eqb, ne_eqb, true≢false}
use mathlib.Core.List.{IsPrefix}
use mathlib.Core.Logic.{dite}
use mathlib.Core.Option.{none, some}
use native.Mathlib.Decide.{ℕ_discrete}
use lib.ListN.{get_elem?}
use lib.Seq.{set-get_or}
use prog.Atomic.{either}
use Rattle.atomic_table.specs.Table.{State, Me, step, keeps, stepped, Allows, Splits, Joins}
use Rattle.atomic_table.proofs.Lists.{at_set, at_longer, set_else}
use Rattle.mw_lock.specs.declared.view.Entry.{Entry}
use Rattle.mw_lock.specs.declared.view.Turn.TheVariants.{Free}
use Rattle.mw_lock.specs.declared.view.View.{View}
use Rattle.mw_lock.specs.declared.view.Desk.{Desk}
use Rattle.mw_lock.specs.History.{events, calls_by, AllBelow, IsLegal}
use Rattle.mw_lock.specs.Rule.{Each, Has, Apart, is_holding, spent, listed, KnowsAll, Stood, Sits, Seated, DeskStands, Kept}
use Rattle.mw_lock.specs.Told.{with_made, numbered, without_last, given, left_of, right_of, met, named, counted, glanced}
use Rattle.mw_lock.proofs.Lists.{set_there, one_value, prefix_self, prefix_empty, each_map, each_both, each_append, at_end, apart_append, has_all, put, put_here, put_else}
use Rattle.mw_lock.proofs.Histories.{below_higher, calls_none, below_front}
use Rattle.mw_lock.proofs.Numbers.{at_most, all_of}
use Rattle.mw_lock.proofs.Keeps.{seats, sees_all, still_holds, still}

module _ {V C R B : Type 0} (base : V → B) (replies : B → List (C × R) → C → R → Type 0) (stands : V → List (C × R) → Type 0) (b : B) where
  abbrev Vw : Type 0
  Vw = View C R B

  abbrev D : Type 0
  D = Desk V C R

  abbrev St : Type 0
  St = State D Vw

  abbrev M : Type 0
  M = Me D Vw

  abbrev Rule : St → Type 0
  Rule = Kept base replies stands b

  abbrev Log : Type 0
  Log = List (Entry C R)

  -- a pass that stands for as many numbers as were given is the only one that is left
  pub alone : (s : St) (r : Rule s) (id j : ℕ) (d x : Vw) → get_elem? s.views id ≡ some d → d.live ≡ true → r.made ≡ length (listed d) → get_elem? s.views j ≡ some x → x.live ≡ true → j ≡ id
  alone s r id j d x at live many at' live' = let mine = r.each_seat id d at live in let other = r.each_seat j x at' live' in
      sym other.numbers.0.1 ∙ all_of r.made (listed d) (λ n. r.holder n ≡ id) mine.apart (each_map (Stood r.log r.made r.holder id) (λ y. y.0 < r.made) (listed d) (λ y h. h.0) mine.numbers) many
      (each_map (Stood r.log r.made r.holder id) (λ y. r.holder y.0 ≡ id) (listed d) (λ y h. h.1) mine.numbers) x.number other.numbers.0.0

  sits_free : (log : Log) (ticket made : ℕ) (owner holder : ℕ → ℕ) (j : ℕ) (d : Vw) → d.turn ≡ Free → Sits log ticket made owner holder j d d.turn
  sits_free log ticket made owner holder j d free = subst (Sits log ticket made owner holder j d) (sym free) tt

  names_one : (s : St) (r : Rule s) (id : ℕ) (d : Vw) → get_elem? s.views id ≡ some d → d.turn ≡ Free → d.live ≡ true → r.made + 1 < 2 ^ 64
      → Rule record { words = set s.words 2 (r.made + 1); homes = s.homes; views = set s.views id (numbered r.made d) }
  names_one s r id d at free live few = let n : ℕ = r.made in let w : Vw = numbered n d in let mine = r.each_seat id d at live in let holder' : ℕ → ℕ = put r.holder n id in
      let kept : (j : ℕ) (x : ℕ × List (C × R)) → Stood r.log n r.holder j x → Stood r.log (n + 1) holder' j x =
      λ j x h. let low = h.0 in (omega arith, put_else r.holder n id x.0 (λ e. omega arith) ∙ h.1, h.2) in
      let higher : (ks : List ℕ) → Each (λ k. k ≤ n) ks → Each (λ k. k ≤ n + 1) ks = λ ks h. each_map (λ k. k ≤ n) (λ k. k ≤ n + 1) ks (λ k low. omega arith) h in record {
        log = r.log;
        ticket = r.ticket;
        made = n + 1;
        owner = r.owner;
        holder = holder';
        words = ap (λ (ws : List ℕ). set ws 2 (n + 1)) r.words;
        served = r.served;
        fits = r.fits;
        few = few;
        bells = r.bells;
        legal = r.legal;
        below = below_higher n (n + 1) r.log (omega arith) r.below;
        each_seat = seats base replies stands b (λ j x. Seated r.log r.ticket (n + 1) r.owner holder' j b x) s.views id w
            record {
              base_is = mine.base_is;
              seen = mine.seen;
              told = mine.told;
              turn = sits_free r.log r.ticket (n + 1) r.owner holder' id w free;
              numbers = (kept id (d.number, d.own) mine.numbers.0, ((omega arith, put_here r.holder n id, calls_none n r.log r.below), each_map (Stood r.log n r.holder id) (Stood r.log (n + 1) holder' id) d.ended (kept id) mine.numbers.1));
              apart = (
                ((λ e. let low = mine.numbers.0.0 in omega arith), mine.apart.0),
                (each_map (Stood r.log n r.holder id) (λ x. n ≢ x.0) d.ended (λ x h e. let low = h.0 in omega arith) mine.numbers.1, mine.apart.1),
              );
              whole = λ e. absurd (omega arith);
              counts = higher d.counts mine.counts;
            }
            (λ j x other at' live'. let h = r.each_seat j x at' live' in record {
              base_is = h.base_is;
              seen = h.seen;
              told = h.told;
              turn = h.turn;
              numbers = each_map (Stood r.log n r.holder j) (Stood r.log (n + 1) holder' j) (listed x) (kept j) h.numbers;
              apart = h.apart;
              whole = λ e. absurd (other (sym (alone s r j id x d at' live' (h.whole e ∙ e) at live)));
              counts = higher x.counts h.counts;
            });
        known_all = sees_all base replies stands b r.log s.views id d w at live (λ e. e) r.known_all;
        home = ⊎_elim (λ h. inl h) (λ h. inr (h.0, still_holds base replies stands b s.views id (r.owner (length r.log)) d w at (ap is_holding free) h.1)) r.home;
      }

  pub names : (slots id : ℕ) (me : M) (old : ℕ) → me.0.turn ≡ Free → me.0.live ≡ true → old + 1 < 2 ^ 64
      → Allows Rule slots id me 2 (λ n. either (eqb n old) (old + 1) n) (named (step slots 2 old (old + 1) none) me)
  names slots id me old free live fits s r _ at _ = let n : ℕ = get_or s.words 2 0 in let here : n ≡ r.made = ap (λ (ws : List ℕ). get_or ws 2 0) r.words in
      dite (ℕ_discrete n old)
      (λ hit. let is : r.made ≡ old = sym here ∙ hit in let mine = r.each_seat id me.0 at live in let all : me.0.seen ++ mine.seen.0 ≡ r.log = mine.seen.1 in (
        numbered old me.0,
        keeps,
        tt,
        subst (λ (c : Bool). Rule (stepped s 2 (either c (old + 1) n) id me.1 (numbered old me.0) keeps)) (sym (eq-eqb n old hit))
            (subst (λ (k : ℕ). Rule record { words = set s.words 2 (k + 1); homes = s.homes; views = set s.views id (numbered k me.0) }) is (names_one s r id me.0 at free live (omega arith))),
        (
          refl,
          (λ _. (
            refl,
            calls_none old me.0.seen (subst (λ k. AllBelow k me.0.seen) is (below_front r.made me.0.seen mine.seen.0 (subst (AllBelow r.made) (sym all) r.below))),
            each_map (Stood r.log r.made r.holder id) (λ x. old ≢ x.0) (listed me.0) (λ x h e. let low = h.0 in omega arith) mine.numbers,
          )),
          λ miss. absurd (miss hit),
        ),
      ))
      (λ miss. (
        me.0,
        keeps,
        tt,
        subst (λ (c : Bool). Rule (stepped s 2 (either c (old + 1) n) id me.1 me.0 keeps)) (sym (ne_eqb n old miss)) (still base replies stands b s r 2 id me.0 at),
        (refl, (λ hit. absurd (miss hit)), λ _. refl),
      ))

  -- the history's length is loaded, and the history seen
  pub glances : (slots id : ℕ) (me : M) → me.0.turn ≡ Free → me.0.live ≡ true → Allows Rule slots id me 1 (λ n. n) (glanced replies (step slots 1 0 0 none) me)
  glances slots id me free live s r _ at _ = let w : Vw = record me.0 { seen = r.log; told = [] } in let mine = r.each_seat id me.0 at live in
      let few = r.few in let many = at_most r.made (listed me.0) mine.apart (each_map (Stood r.log r.made r.holder id) (λ y. y.0 < r.made) (listed me.0) (λ y h. h.0) mine.numbers) in (
        w,
        keeps,
        tt,
        record {
          log = r.log;
          ticket = r.ticket;
          made = r.made;
          owner = r.owner;
          holder = r.holder;
          words = set-get_or s.words 1 0 ∙ r.words;
          served = r.served;
          fits = r.fits;
          few = r.few;
          bells = r.bells;
          legal = r.legal;
          below = r.below;
          each_seat = seats base replies stands b (λ j x. Seated r.log r.ticket r.made r.owner r.holder j b x) s.views id w
              record {
                base_is = mine.base_is;
                seen = prefix_self r.log;
                told = (r.log, refl);
                turn = sits_free r.log r.ticket r.made r.owner r.holder id w free;
                numbers = mine.numbers;
                apart = mine.apart;
                whole = mine.whole;
                counts = mine.counts;
              }
              (λ j x other at' live'. r.each_seat j x at' live');
          known_all = (id, w, set_there s.views id w me.0 at, live, inl refl);
          home = ⊎_elim (λ h. inl h) (λ h. inr (h.0, still_holds base replies stands b s.views id (r.owner (length r.log)) me.0 w at (ap is_holding free) h.1)) r.home;
        },
        (
          r.log,
          refl,
          mine.seen,
          mine.told,
          subst (λ (z : B). IsLegal (replies z) r.log) (sym mine.base_is) r.legal,
          mine.apart,
          each_map (Stood r.log r.made r.holder id) (λ x. calls_by x.0 r.log ≡ x.1) (listed me.0) (λ x h. h.2) mine.numbers,
          omega arith,
        ),
      )

  -- how many numbers were given is loaded
  pub counts : (slots id : ℕ) (me : M) → me.0.turn ≡ Free → me.0.live ≡ true → Allows Rule slots id me 2 (λ n. n) (counted (step slots 2 0 0 none) me)
  counts slots id me free live s r _ at _ = let n : ℕ = get_or s.words 2 0 in let here : n ≡ r.made = ap (λ (ws : List ℕ). get_or ws 2 0) r.words in
      let w : Vw = with_made n me.0 in let mine = r.each_seat id me.0 at live in
      let many = at_most r.made (listed me.0) mine.apart (each_map (Stood r.log r.made r.holder id) (λ y. y.0 < r.made) (listed me.0) (λ y h. h.0) mine.numbers) in (
        w,
        keeps,
        tt,
        record {
          log = r.log;
          ticket = r.ticket;
          made = r.made;
          owner = r.owner;
          holder = r.holder;
          words = set-get_or s.words 2 0 ∙ r.words;
          served = r.served;
          fits = r.fits;
          few = r.few;
          bells = r.bells;
          legal = r.legal;
          below = r.below;
          each_seat = seats base replies stands b (λ j x. Seated r.log r.ticket r.made r.owner r.holder j b x) s.views id w
              record {
                base_is = mine.base_is;
                seen = mine.seen;
                told = mine.told;
                turn = sits_free r.log r.ticket r.made r.owner r.holder id w free;
                numbers = mine.numbers;
                apart = mine.apart;
                whole = λ _. sym here;
                counts = (omega arith, mine.counts);
              }
              (λ j x other at' live'. r.each_seat j x at' live');
          known_all = sees_all base replies stands b r.log s.views id me.0 w at live (λ e. e) r.known_all;
          home = ⊎_elim (λ h. inl h) (λ h. inr (h.0, still_holds base replies stands b s.views id (r.owner (length r.log)) me.0 w at (ap is_holding free) h.1)) r.home;
        },
        (refl, omega arith),
      )

  -- the right one of two takes the last number
  splits_one : (s : St) (r : Rule s) (id : ℕ) (d : Vw) (x : ℕ × List (C × R)) (xs : List (ℕ × List (C × R))) → get_elem? s.views id ≡ some d → d.turn ≡ Free → d.live ≡ true → d.ended ≡ x ∷ xs
      → Rule record { words = s.words; homes = s.homes; views = set s.views id (without_last d (x ∷ xs)) ++ given d (x ∷ xs) ∷ [] }
  splits_one s r id d x xs at free live ended = let w : Vw = without_last d (x ∷ xs) in let o : Vw = given d (x ∷ xs) in let mine = r.each_seat id d at live in let vs : List Vw = set s.views id w in
      let new : ℕ = length vs in let holder' : ℕ → ℕ = put r.holder x.0 new in
      let apart : Apart ((d.number, d.own) ∷ x ∷ xs) = subst (λ es. Apart ((d.number, d.own) ∷ es)) ended mine.apart in
      let stood : Each (Stood r.log r.made r.holder id) ((d.number, d.own) ∷ x ∷ xs) = subst (λ es. Each (Stood r.log r.made r.holder id) ((d.number, d.own) ∷ es)) ended mine.numbers in
      let here : Stood r.log r.made r.holder id x = stood.1.0 in
      let keep : (j : ℕ) (y : ℕ × List (C × R)) → x.0 ≢ y.0 → Stood r.log r.made r.holder j y → Stood r.log r.made holder' j y = λ j y ne h. (h.0, put_else r.holder x.0 new y.0 (λ e. ne (sym e)) ∙ h.1, h.2) in record {
        log = r.log;
        ticket = r.ticket;
        made = r.made;
        owner = r.owner;
        holder = holder';
        words = r.words;
        served = r.served;
        fits = r.fits;
        few = r.few;
        bells = r.bells;
        legal = r.legal;
        below = r.below;
        each_seat = λ j v at' live'. ⊎_elim
            (λ old. seats base replies stands b (λ k u. Seated r.log r.ticket r.made r.owner holder' k b u) s.views id w
            record {
              base_is = mine.base_is;
              seen = mine.seen;
              told = mine.told;
              turn = sits_free r.log r.ticket r.made r.owner holder' id w free;
              numbers = (
                keep id (d.number, d.own) (λ e. apart.0.0 (sym e)) stood.0,
                each_both (λ y. x.0 ≢ y.0) (Stood r.log r.made r.holder id) (Stood r.log r.made holder' id) xs (keep id) apart.1.0 stood.1.1,
              );
              apart = (apart.0.1, apart.1.1);
              whole = λ e. absurd (omega arith);
              counts = mine.counts;
            }
            (λ k u other at₁ live₁. let h = r.each_seat k u at₁ live₁ in record {
              base_is = h.base_is;
              seen = h.seen;
              told = h.told;
              turn = h.turn;
              numbers = each_map (Stood r.log r.made r.holder k) (Stood r.log r.made holder' k) (listed u) (λ y g. keep k y (λ e. other (sym g.1 ∙ (ap r.holder (sym e) ∙ here.1))) g) h.numbers;
              apart = h.apart;
              whole = h.whole;
              counts = h.counts;
            })
            j v old live')
            (λ last. subst (λ (z : ℕ × Vw). Seated r.log r.ticket r.made r.owner holder' z.0 b z.1) (λ i. (sym last.0 i, last.1 i)) record {
              base_is = mine.base_is;
              seen = mine.seen;
              told = (r.log, refl);
              turn = tt;
              numbers = ((here.0, put_here r.holder x.0 new, here.2), tt);
              apart = (tt, tt);
              whole = λ e. absurd (omega arith);
              counts = tt;
            })
            (at_end vs o v j at');
        known_all = let k = sees_all base replies stands b r.log s.views id d w at live (λ e. e) r.known_all in (k.0, k.1, at_longer vs (o ∷ []) k.0 k.1 k.2, k.3, k.4);
        home = ⊎_elim (λ h. inl h)
            (λ h. let k = still_holds base replies stands b s.views id (r.owner (length r.log)) d w at (ap is_holding free) h.1 in inr (h.0, (k.0, at_longer vs (o ∷ []) (r.owner (length r.log)) k.0 k.1, k.2, k.3))) r.home;
      }

  pub splits : (id : ℕ) (d : Vw) (x : ℕ × List (C × R)) (xs : List (ℕ × List (C × R))) → d.turn ≡ Free → d.live ≡ true → d.ended ≡ x ∷ xs → Splits Rule id d (left_of d) (right_of d)
  splits id d x xs free live ended s r at = subst (λ es. Rule record { words = s.words; homes = s.homes; views = set s.views id (without_last d es) ++ given d es ∷ [] }) (sym ended)
      (splits_one s r id d x xs at free live ended)

  -- another passes' numbers go to the seat that it met in
  abbrev joined : (ℕ → ℕ) → ℕ → ℕ → ℕ → ℕ
  joined holder other id n = cond (eqb (holder n) other) id (holder n)

  joined_there : (holder : ℕ → ℕ) (other id n : ℕ) → holder n ≡ other → joined holder other id n ≡ id
  joined_there holder other id n e = ap (λ (c : Bool). cond c id (holder n)) (eq-eqb (holder n) other e)

  joined_else : (holder : ℕ → ℕ) (other id n : ℕ) → holder n ≢ other → joined holder other id n ≡ holder n
  joined_else holder other id n e = ap (λ (c : Bool). cond c id (holder n)) (ne_eqb (holder n) other e)

  -- a pass that was told nothing and knows all has seen all
  seen_it : (log : Log) (d : Vw) → IsPrefix d.seen log → d.told ≡ [] → KnowsAll log d → d.seen ≡ log
  seen_it log d pre told all = ⊎_elim (λ e. e) (λ e. let none_yet : log ≡ [] = sym e ∙ told in prefix_empty d.seen (subst (IsPrefix d.seen) none_yet pre) ∙ sym none_yet) all

  pub joins : (id : ℕ) (v : Vw) (other : ℕ) (w : Vw) (z : B) → v.turn ≡ Free → v.live ≡ true → v.told ≡ [] → w.turn ≡ Free → w.live ≡ true → w.told ≡ [] → Joins Rule id v other w (met v w) (spent z)
  joins id v other w z free live told free' live' told' s r at apart at₁ = let u : Vw = met v w in let o : Vw = spent z in let vs : List Vw = set s.views id u in
      let at' : get_elem? s.views other ≡ some w = sym (set_else s.views id other u apart) ∙ at₁ in let mine = r.each_seat id v at live in let theirs = r.each_seat other w at' live' in
      let holder' : ℕ → ℕ = joined r.holder other id in
      let keep : (j : ℕ) (y : ℕ × List (C × R)) → j ≢ other → Stood r.log r.made r.holder j y → Stood r.log r.made holder' j y =
      λ j y ne h. (h.0, joined_else r.holder other id y.0 (λ e. ne (sym h.1 ∙ e)) ∙ h.1, h.2) in
      let take : (y : ℕ × List (C × R)) → Stood r.log r.made r.holder other y → Stood r.log r.made holder' id y = λ y h. (h.0, joined_there r.holder other id y.0 h.1, h.2) in
      let not_other : id ≢ other = λ e. apart (sym e) in
      let differ : (y : ℕ × List (C × R)) → Stood r.log r.made r.holder id y → Each (λ x. y.0 ≢ x.0) (listed w) =
      λ y h. each_map (Stood r.log r.made r.holder other) (λ x. y.0 ≢ x.0) (listed w) (λ x k e. not_other (sym h.1 ∙ (ap r.holder e ∙ k.1))) theirs.numbers in record {
        log = r.log;
        ticket = r.ticket;
        made = r.made;
        owner = r.owner;
        holder = holder';
        words = r.words;
        served = r.served;
        fits = r.fits;
        few = r.few;
        bells = r.bells;
        legal = r.legal;
        below = r.below;
        each_seat = λ j x at₂ live₂. ⊎_elim
            (λ (t : (j ≡ other) × (o ≡ x)). absurd (true≢false (sym live₂ ∙ sym (ap (λ (y : Vw). y.live) t.1))))
            (λ (t : (j ≢ other) × (get_elem? vs j ≡ some x)). ⊎_elim
            (λ (k : (j ≡ id) × (u ≡ x)). subst (λ (y : ℕ × Vw). Seated r.log r.ticket r.made r.owner holder' y.0 b y.1) (λ i. (sym k.0 i, k.1 i)) record {
              base_is = mine.base_is;
              seen = mine.seen;
              told = theirs.seen;
              turn = sits_free r.log r.ticket r.made r.owner holder' id u free;
              numbers = (
                keep id (v.number, v.own) not_other mine.numbers.0,
                each_append (Stood r.log r.made holder' id) (listed w) v.ended
                    (each_map (Stood r.log r.made r.holder other) (Stood r.log r.made holder' id) (listed w) take theirs.numbers)
                    (each_map (Stood r.log r.made r.holder id) (Stood r.log r.made holder' id) v.ended (λ y h. keep id y not_other h) mine.numbers.1),
              );
              apart = (
                each_append (λ y. v.number ≢ y.0) (listed w) v.ended (differ (v.number, v.own) mine.numbers.0) mine.apart.0,
                apart_append (listed w) v.ended theirs.apart mine.apart.1
                    (each_map (Stood r.log r.made r.holder other) (λ x. Each (λ y. x.0 ≢ y.0) v.ended) (listed w)
                    (λ x k. each_map (Stood r.log r.made r.holder id) (λ y. x.0 ≢ y.0) v.ended (λ y h e. not_other (sym h.1 ∙ (ap r.holder (sym e) ∙ k.1))) mine.numbers.1) theirs.numbers),
              );
              whole = λ e. absurd (omega arith);
              counts = mine.counts;
            })
            (λ (k : (j ≢ id) × (get_elem? s.views j ≡ some x)). let h = r.each_seat j x k.1 live₂ in record {
              base_is = h.base_is;
              seen = h.seen;
              told = h.told;
              turn = h.turn;
              numbers = each_map (Stood r.log r.made r.holder j) (Stood r.log r.made holder' j) (listed x) (λ y g. keep j y t.0 g) h.numbers;
              apart = h.apart;
              whole = h.whole;
              counts = h.counts;
            })
            (at_set s.views id j u x t.1))
            (at_set vs other j o x at₂);
        known_all = let k = r.known_all in dite (ℕ_discrete k.0 other)
            (λ here. let same : w ≡ k.1 = one_value s.views other w k.1 at' (ap (get_elem? s.views) (sym here) ∙ k.2) in
            (id, u, set_else vs other id o not_other ∙ set_there s.views id u v at, live, inr (seen_it r.log w theirs.seen told' (subst (KnowsAll r.log) (sym same) k.4))))
            (λ else. let l = sees_all base replies stands b r.log s.views id v u at live (λ all. inl (seen_it r.log v mine.seen told all)) r.known_all in
            dite (ℕ_discrete l.0 other)
            (λ here. let same : w ≡ l.1 = one_value vs other w l.1 at₁ (ap (get_elem? vs) (sym here) ∙ l.2) in
            (id, u, set_else vs other id o not_other ∙ set_there s.views id u v at, live, inr (seen_it r.log w theirs.seen told' (subst (KnowsAll r.log) (sym same) l.4))))
            (λ other'. (l.0, l.1, set_else vs other l.0 o other' ∙ l.2, l.3, l.4)));
        home = ⊎_elim (λ h. inl h)
            (λ h. inr (h.0, still_holds base replies stands b vs other (r.owner (length r.log)) w o at₁ (ap is_holding free') (still_holds base replies stands b s.views id (r.owner (length r.log)) v u at (ap is_holding free) h.1))) r.home;
      }

  entries_have : (n : ℕ) (log : Log) (P : ℕ → Type 0) → AllBelow n log → ((k : ℕ) → k < n → P k) → Each (λ e. P e.by) log
  entries_have n [] P all f = tt
  entries_have n (e ∷ es) P all f = (f e.by all.0, entries_have n es P all.1 f)

  -- where a pass stands for as many numbers as were given, the value is at home, and the pass has seen the whole history
  pub closes : (s : St) (r : Rule s) (id : ℕ) (v : Vw) → get_elem? s.views id ≡ some v → v.turn ≡ Free → v.live ≡ true → v.told ≡ [] → v.made ≡ length (listed v)
      → (x : D) × (s.homes ≡ some x ∷ []) × DeskStands base replies stands v.base.value (events v.seen) x
      × Each (λ e. Has e.by (listed v)) v.seen × Apart (listed v) × Each (λ y. calls_by y.0 v.seen ≡ y.1) (listed v)
  closes s r id v at free live told many = let mine = r.each_seat id v at live in let all : r.made ≡ length (listed v) = mine.whole many ∙ many in let k = r.known_all in
      let is_v : k.1 ≡ v = one_value s.views id k.1 v (ap (get_elem? s.views) (sym (alone s r id k.0 v k.1 at live all k.2 k.3)) ∙ k.2) at in
      let seen : v.seen ≡ r.log = seen_it r.log v mine.seen told (subst (KnowsAll r.log) is_v k.4) in
      let numbers = mine.numbers in
      ⊎_elim
      (λ h. (
        h.0,
        h.1,
        (subst (λ (z : Log). stands h.0.value (events z)) (sym seen) h.2.0, h.2.1 ∙ sym mine.base_is),
        subst (Each (λ e. Has e.by (listed v))) (sym seen)
            (entries_have r.made r.log (λ n. Has n (listed v)) r.below
            (all_of r.made (listed v) (λ n. Has n (listed v)) mine.apart (each_map (Stood r.log r.made r.holder id) (λ y. y.0 < r.made) (listed v) (λ y g. g.0) numbers) all (has_all (listed v)))),
        mine.apart,
        subst (λ (z : Log). Each (λ y. calls_by y.0 z ≡ y.1) (listed v)) (sym seen) (each_map (Stood r.log r.made r.holder id) (λ y. calls_by y.0 r.log ≡ y.1) (listed v) (λ y g. g.2) numbers),
      ))
      (λ h. let j : ℕ = r.owner (length r.log) in let d = h.1 in
      let same : d.0 ≡ v = one_value s.views id d.0 v (ap (get_elem? s.views) (sym (alone s r id j v d.0 at live all d.1 d.2)) ∙ d.1) at in
      absurd (true≢false (sym d.3 ∙ (ap (λ (y : Vw). is_holding y.turn) same ∙ ap is_holding free))))
      r.home
