use Rattle.std.proofs.Common.{◌++◌, ap, ◌∙◌}
use Rattle.mw_multi.specs.Placement.{what_stands}
use Rattle.mw_seeds.specs.Played.{played_lines}
use Rattle.mw_offline.specs.Checking.{right_line}
use Rattle.mw_offline.proofs.check_command.text_of.Goals as goal

pub returns : goal.returns
returns c =
    let played = c.in_ok-played.played in
    record {
      played = played;
      is_playthrough = c.in_ok-played.ensures.played;
      needed = c.in_ok-played.ensures.spare;
      printed = c.in_ok-with_played.ensures
          ∙ ap (λ t. t ++ played_lines c.args.joint.now (what_stands c.args.placement.now) 1 played) (c.in_ok-text.ensures ∙ ap right_line c.len.ensures);
    }
