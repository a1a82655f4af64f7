use Rattle.std.proofs.Common.{◌∷◌, ◌∙◌, List, [], length, length-append, refl, ap, sym, subst, arith}
use Rattle.std.specs.List.{AllByRecursion}
use Rattle.mw_journal.specs.Journal.{disk_of}
use Rattle.mw_link.specs.declared.link.Heard.{Heard}
use Rattle.mw_client.specs.Playing.{Play, begun}
use Rattle.mw_play.specs.Turns.{HoldsFront, IsCame, NotEnd, known, said, texts_in}
use Rattle.mw_play.specs.declared.over.Came.{Came}
use Rattle.mw_play.specs.declared.over.Came.TheVariants.{More}
use Rattle.mw_play.proofs.Following.{front_same, last_all, unended_on}
use Rattle.mw_play.proofs.Kept.{keeps_holds, moments_then, nothing_left}
use Rattle.mw_play.proofs.turns.play_over.Goals as goal

pub loop-init : goal.loop-init
loop-init g c =
    let list = c.args.play.now.list in
    let heard = g.L.Link.heard c.args.line.now in
    record {
      follows = record {
        knows = c.requires.begun ∙ ap (known list) (sym c.requires.unheard);
        sent = c.requires.unsent ∙ ap (said c.args.player.now list) (sym c.requires.unheard);
      };
      unended = subst (λ (l : List Heard). AllByRecursion NotEnd l) (sym c.requires.unheard) tt;
      count = ap length c.requires.unheard;
      going = ap (λ (p : Play). p.refusal) c.requires.begun;
      whole = c.requires.whole;
      keeps = λ digest keeps. keeps;
      moments = λ digest keeps. nothing_left g.D.Disk.may_leave g.D.Disk.moment g.D.Disk.left_since g.met.D.Disk.only_now digest c.args.journal.now list (HoldsFront digest list (texts_in heard)) keeps
          (λ i holds. front_same i digest list [] [] heard (begun list) refl c.requires.unheard holds);
      later = omega arith;
      later_disk = omega arith;
    }

pub returns-in_err-take_turn-clause-moments : goal.returns-in_err-take_turn-clause-moments
returns-in_err-take_turn-clause-moments g c = λ digest keeps.
    moments_then g.D.Disk.may_leave g.D.Disk.moment g.D.Disk.left_since g.met.D.Disk.only_now (disk_of c.args.journal.now) (disk_of c.loop.journal) (disk_of c.take_turn.new.journal) digest c.args.play.now.list
    (g.L.Link.heard c.loop.line) c.take_turn.ensures.grows.0 (g.L.Link.heard c.take_turn.new.line) c.take_turn.ensures.grows.1 (c.loop.invariant.moments digest keeps)
    (c.take_turn.ensures.moments digest c.args.play.now.list c.loop.invariant.follows (c.loop.invariant.keeps digest keeps))

pub returns-in-TurnedAway-clause-moments : goal.returns-in-TurnedAway-clause-moments
returns-in-TurnedAway-clause-moments g c = λ digest keeps.
    moments_then g.D.Disk.may_leave g.D.Disk.moment g.D.Disk.left_since g.met.D.Disk.only_now (disk_of c.args.journal.now) (disk_of c.loop.journal) (disk_of c.take_turn.new.journal) digest c.args.play.now.list
    (g.L.Link.heard c.loop.line) c.take_turn.ensures.grows.0 (g.L.Link.heard c.take_turn.new.line) c.take_turn.ensures.grows.1 (c.loop.invariant.moments digest keeps)
    (c.take_turn.ensures.moments digest c.args.play.now.list c.loop.invariant.follows (c.loop.invariant.keeps digest keeps))

pub returns-in-AtEnd-clause-moments : goal.returns-in-AtEnd-clause-moments
returns-in-AtEnd-clause-moments g c = λ digest keeps.
    moments_then g.D.Disk.may_leave g.D.Disk.moment g.D.Disk.left_since g.met.D.Disk.only_now (disk_of c.args.journal.now) (disk_of c.loop.journal) (disk_of c.take_turn.new.journal) digest c.args.play.now.list
    (g.L.Link.heard c.loop.line) c.take_turn.ensures.grows.0 (g.L.Link.heard c.take_turn.new.line) c.take_turn.ensures.grows.1 (c.loop.invariant.moments digest keeps)
    (c.take_turn.ensures.moments digest c.args.play.now.list c.loop.invariant.follows (c.loop.invariant.keeps digest keeps))

pub loop-preserved : goal.loop-preserved
loop-preserved g c =
    let before = g.L.Link.heard c.loop.line in
    let after = g.L.Link.heard c.take_turn.new.line in
    let came : IsCame More before after c.take_turn.new.play = subst (λ (k : Came). IsCame k before after c.take_turn.new.play) c.in-More.is c.in_ok-take_turn.ensures.came in
    record {
      follows = c.in_ok-take_turn.ensures.follows c.args.play.now.list c.loop.invariant.follows;
      unended = unended_on before after came.0 came.1 c.loop.invariant.unended came.2;
      count = omega (arith, ap length came.1, length-append before (came.0 ∷ []), c.loop.invariant.count);
      going = came.3;
      whole = c.in_ok-take_turn.ensures.whole;
      keeps = λ digest keeps. c.in_ok-take_turn.ensures.keeps digest (c.loop.invariant.keeps digest keeps);
      moments = λ digest keeps.
          moments_then g.D.Disk.may_leave g.D.Disk.moment g.D.Disk.left_since g.met.D.Disk.only_now (disk_of c.args.journal.now) (disk_of c.loop.journal) (disk_of c.take_turn.new.journal) digest c.args.play.now.list
          before c.take_turn.ensures.grows.0 after c.take_turn.ensures.grows.1 (c.loop.invariant.moments digest keeps)
          (c.take_turn.ensures.moments digest c.args.play.now.list c.loop.invariant.follows (c.loop.invariant.keeps digest keeps));
      later = omega (arith, c.loop.invariant.later, c.take_turn.ensures.later);
      later_disk = omega (arith, c.loop.invariant.later_disk, c.take_turn.ensures.later_disk);
    }

pub returns-in_err-take_turn-clause-last : goal.returns-in_err-take_turn-clause-last
returns-in_err-take_turn-clause-last g c = λ digest keeps. c.take_turn.ensures.last digest c.args.play.now.list c.loop.invariant.follows (c.loop.invariant.keeps digest keeps)

pub returns-in-TurnedAway-clause-last : goal.returns-in-TurnedAway-clause-last
returns-in-TurnedAway-clause-last g c = λ digest keeps. c.take_turn.ensures.last digest c.args.play.now.list c.loop.invariant.follows (c.loop.invariant.keeps digest keeps)

pub returns-in-AtEnd-clause-last : goal.returns-in-AtEnd-clause-last
returns-in-AtEnd-clause-last g c = λ digest keeps. c.take_turn.ensures.last digest c.args.play.now.list c.loop.invariant.follows (c.loop.invariant.keeps digest keeps)

pub returns-clause-last : goal.returns-clause-last
returns-clause-last g c = λ digest keeps i left.
    last_all i digest c.args.play.now.list (g.L.Link.heard c.loop.line) c.loop.play c.loop.invariant.follows.knows
    (keeps_holds g.D.Disk.may_leave g.D.Disk.moment g.D.Disk.left_since g.met.D.Disk.only_now digest c.loop.journal c.loop.play.list (c.loop.invariant.keeps digest keeps) i left)
