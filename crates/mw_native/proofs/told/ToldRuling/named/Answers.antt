use Rattle.std.proofs.Common.{◌≡◌, List, length, get_or, sym, ap, subst, ◌∙◌, arith}
use Rattle.mw_rules.specs.Ruling.{rule_at}
use Rattle.mw_rules.specs.declared.named.Named.{Named}
use Rattle.mw_native.specs.Told.{IsNamed}
use Rattle.mw_native.proofs.Telling.{length_named, named_at}
use Rattle.mw_native.proofs.told.ToldRuling.named.Goals as goal

pub bounds-as_slice-number : goal.bounds-as_slice-number
bounds-as_slice-number g c =
    omega (arith, c.requires.2, length_named c.requires.0 c.args.self.now.named c.requires.1.names, ap {A = List Named} length c.as_slice.ensures)

pub returns : goal.returns
returns g c = record {
  names = λ rules told below.
      let names = c.index-as_slice-number.result in
      let read : names ≡ get_or c.args.self.now.named c.args.number names = c.index-as_slice-number.is ∙ ap (λ ns. get_or ns c.args.number names) c.as_slice.ensures in
      subst (IsNamed (rule_at rules c.args.number)) (sym read) (named_at rules c.args.self.now.named c.args.number names told.names below);
}
