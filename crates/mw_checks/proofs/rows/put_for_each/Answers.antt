use Rattle.std.proofs.Common.{◌≡◌, ◌+◌, ◌≤◌, ◌==◌, ◌++◌, ◌∷◌, [], ℕ, List, true, drop, get_or, cond, sym, ap, ◌∙◌, subst, arith}
use Rattle.std.specs.Ordering.{nat_cmp}
use Rattle.mw_model.specs.Ascending.{Ascend}
use Rattle.mw_model.specs.Seed.{has_number}
use Rattle.mw_checks.specs.Rows.{HasPlace, Put, PutFor, one_if, seat}
use Rattle.mw_checks.proofs.Keeping.{put_for_one}
use Rattle.mw_checks.proofs.Owning.{among_all, counted_apart, first_among, next_of, put_apart}
use Rattle.mw_checks.proofs.rows.put_for_each.Goals as goal

pub put_at-requires : goal.put_at-requires
put_at-requires c =
    let l = c.loop-slot in
    let slots = c.args.slots.now in
    let m = c.slot-item.result in
    let rest : drop l.slot-index slots ≡ m ∷ drop (l.slot-index + 1) slots = next_of slots l.slot-index m c.loop-slot-test.true c.slot-item.is in
    let few : m ≤ 1024 = omega (arith, c.get.ensures.value, c.get.ensures.range) in
    let here : has_number (drop l.slot-index slots) m ≡ true = ap (λ (ns : List ℕ). has_number ns m) rest ∙ first_among m (drop (l.slot-index + 1) slots) in
    let all : has_number slots m ≡ true = among_all slots l.slot-index m here in
    let place = c.requires.places m few all in
    let at : seat m c.args.team ≡ c.seat.result = sym (c.seat.ensures.value ∙ ap (λ n. seat n c.args.team) (c.from.ensures ∙ c.get.ensures.value)) in
    let now : one_if (has_number (drop l.slot-index slots) m) ≡ 1 = ap one_if here in
    let was : one_if (has_number slots m) ≡ 1 = ap one_if all in
    let found : HasPlace l.rows.items (seat m c.args.team) =
    record {
      within = omega (arith, place.within, l.invariant.many);
      room = λ d. omega (arith, place.room d, now, was, l.invariant.len m d few, l.invariant.space m d few);
    } in
    subst (HasPlace l.rows.items) at found

pub loop-slot-preserved : goal.loop-slot-preserved
loop-slot-preserved c =
    let l = c.loop-slot in
    let slots = c.args.slots.now in
    let team = c.args.team in
    let n = c.args.number in
    let m = c.slot-item.result in
    let later = drop (l.slot-index + 1) slots in
    let new = c.put_at.new.rows.items in
    let rest : drop l.slot-index slots ≡ m ∷ later = next_of slots l.slot-index m c.loop-slot-test.true c.slot-item.is in
    let ascend : Ascend nat_cmp (m ∷ later) = subst (Ascend nat_cmp) rest l.invariant.ascend in
    let at : c.seat.result ≡ seat m team = c.seat.ensures.value ∙ ap (λ k. seat k team) (c.from.ensures ∙ c.get.ensures.value) in
    let one : PutFor (λ s. m == s) team n l.rows.items new = put_for_one team m n l.rows.items new l.invariant.team (subst (λ i. Put l.rows.items new i n) at c.put_at.ensures) in
    record {
      team = l.invariant.team;
      many = one.many ∙ l.invariant.many;
      ascend = ascend.1;
      items = λ s d few.
          let old = (get_or l.rows.items (seat s team) d).items in
          ap (λ (xs : List ℕ). xs ++ cond (has_number later s) (n ∷ []) []) (one.items s d few)
          ∙ sym (put_apart m later s n old ascend)
          ∙ ap (λ (ns : List ℕ). old ++ cond (has_number ns s) (n ∷ []) []) (sym rest)
          ∙ l.invariant.items s d few;
      len = λ s d few.
          let all : one_if (has_number (drop l.slot-index slots) s) ≡ one_if (has_number (m ∷ later) s) = ap (λ (ns : List ℕ). one_if (has_number ns s)) rest in
          omega (arith, one.len s d few, all, counted_apart m later s ascend, l.invariant.len s d few);
      space = λ s d few. omega (arith, one.space s d few, l.invariant.space s d few);
      others = λ other s d k apart. one.others other s d k apart ∙ l.invariant.others other s d k apart;
    }
