use Rattle.std.proofs.Common.{ℕ, ◌+◌, ◌-◌, ◌∙◌, ap}
use Rattle.tw_surface.specs.ChangeView.{change_view}
use Rattle.tw_surface.specs.Cells.{picture}
use Rattle.tw_surface.proofs.ScrollingScreenLemmas.{played_behind, within_behind}
use Rattle.tw_surface.proofs.scrolling_screen.ScrollingScreen.apply.Goals as goal

-- nothing stands below the last row once the screen has scrolled
pub invariant_of-self-2 : goal.invariant_of-self-2
invariant_of-self-2 c =
    let within = within_behind c.self.inside.rows c.self.inside.screen.width c.saturating_sub.result (change_view c.args.change.now)
    (picture c.self.inside.screen) (picture c.apply.new.self) (picture c.scroll_up.new.self) c.self.invariant.within
    c.in_ok-apply.ensures.played (c.saturating_sub.ensures ∙ ap (λ (r : ℕ). r + 1 - c.self.inside.rows) c.cursor-row.ensures.row) c.scroll_up.ensures.raised in
    record {
      most = c.self.invariant.most;
      within = within;
      near = c.scroll_up.ensures.near c.self.inside.rows within.below;
    }

pub returns-clause-played : goal.returns-clause-played
returns-clause-played c =
    rw (← c.self.view_is) (played_behind c.self.inside.rows c.self.inside.screen.width c.saturating_sub.result (change_view c.args.change.now)
    (picture c.self.inside.screen) (picture c.apply.new.self) (picture c.scroll_up.new.self) c.self.invariant.within
    c.in_ok-apply.ensures.played (c.saturating_sub.ensures ∙ ap (λ (r : ℕ). r + 1 - c.self.inside.rows) c.cursor-row.ensures.row) c.scroll_up.ensures.raised)
