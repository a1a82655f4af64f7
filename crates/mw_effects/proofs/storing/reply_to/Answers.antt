use Rattle.std.proofs.Common.{sym, ap, ◌∙◌, subst, List}
use Rattle.mw_model.specs.Passed.{AreFurther}
use Rattle.mw_protocol.specs.Further.{others}
use Rattle.mw_protocol.specs.Storing.{reply_names}
use Rattle.mw_json.specs.View.{members_view}
use Rattle.mw_json.specs.declared.tree.Member.{Member}
use Rattle.mw_packets_out.specs.Kept.{set_reply_names}
use Rattle.mw_effects.proofs.Sets.{further_left}
use Rattle.mw_effects.proofs.storing.reply_to.Goals as goal

pub invariant_of-result : goal.invariant_of-result
invariant_of-result c =
    let same = c.in_ok-further.ensures ∙ ap (λ (fs : List Member). others reply_names (members_view fs)) c.as_slice.ensures in
    record {
      value = record { writable = c.requires.1.writable; ordered = c.requires.1.ordered };
      original_value = record { writable = c.requires.0.writable; ordered = c.requires.0.ordered };
      further = subst (AreFurther set_reply_names) (sym same) (further_left (members_view c.set.inside.further) c.set.invariant.further);
    }
