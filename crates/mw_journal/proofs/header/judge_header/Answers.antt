use Rattle.std.proofs.Common.{◌≡◌, ◌++◌, take, drop, sym, ap, ◌∙◌, refl, arith, Bool, true, false, take-append-drop, length-drop}
use Rattle.std.proofs.lemmas.List.{take_all}
use Rattle.std.specs.Prelude.{not}
use Rattle.std.proofs.lemmas.Slice.Eq.{bytes_eq-Decides}
use Rattle.mw_journal.specs.Image.{magic}
use Rattle.mw_journal.proofs.header.judge_header.Goals as goal

on_of : (b : Bool) → false ≡ not b → b ≡ true
on_of true h = refl
on_of false h = absurd cc

off_of : (b : Bool) → true ≡ not b → b ≡ false
off_of true h = absurd cc
off_of false h = refl

pub returns-then-ne-clause-refused : goal.returns-then-ne-clause-refused
returns-then-ne-clause-refused c =
    let right : c.first_wrong-wrong.result ≡ 8 = omega (arith, c.first_wrong-wrong.ensures.within, c.if-wrong-lt8.false) in
    let found = c.copy_from_slice.new.self in
    let back : found ≡ drop 8 c.args.head.now = c.copy_from_slice.ensures.after ∙ c.split_at.ensures.back in
    record {
      whole = omega (arith, c.if-head-lt40.false);
      first = ap (λ n. take n c.args.head.now) (sym right) ∙ c.first_wrong-wrong.ensures.before ∙ ap (λ n. take n magic) right;
      found_is = back ∙ sym (take_all 32 (drop 8 c.args.head.now) (omega (arith, c.requires, length-drop 8 c.args.head.now)));
      other = λ same. let yes_eq = (bytes_eq-Decides found c.args.digest.now).1 same in let no_eq = off_of _ c.if-ne.ensures in absurd cc;
    }

pub returns-clause-ok : goal.returns-clause-ok
returns-clause-ok c =
    let right : c.first_wrong-wrong.result ≡ 8 = omega (arith, c.first_wrong-wrong.ensures.within, c.if-wrong-lt8.false) in
    let front : take 8 c.args.head.now ≡ magic = ap (λ n. take n c.args.head.now) (sym right) ∙ c.first_wrong-wrong.ensures.before ∙ ap (λ n. take n magic) right in
    let same : c.copy_from_slice.new.self ≡ c.args.digest.now = (bytes_eq-Decides c.copy_from_slice.new.self c.args.digest.now).0 (on_of _ c.if-ne.ensures) in
    let back : drop 8 c.args.head.now ≡ c.args.digest.now = sym (c.copy_from_slice.ensures.after ∙ c.split_at.ensures.back) ∙ same in
    sym (take-append-drop 8 c.args.head.now) ∙ (λ i. front i ++ back i)
