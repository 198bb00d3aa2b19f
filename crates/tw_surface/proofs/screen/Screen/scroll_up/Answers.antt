use Rattle.std.proofs.Common.{◌≡◌, ◌-◌, ◌*◌, ◌^◌, ◌<◌, min, drop, length, ap, ◌∙◌, arith}
use Rattle.std.proofs.lemmas.List.Elements.{All-drop}
use Rattle.tw_surface.proofs.RaisedCells.{trimmed_drop, trimmed_rows, kept_min, shown_raised, sparse_dropped}
use Rattle.tw_surface.proofs.screen.Screen.scroll_up.Goals as goal

-- so many near cells are dropped
dropped : (c : goal.After-self-1) → c.min-count.result ≡ min (c.args.rows * c.self.inside.width) (length c.self.inside.near.items)
dropped c = kept_min (c.args.rows * c.self.inside.width) c.place_of.result (2 ^ 64 - 1) c.len.result c.min-count.result (length c.self.inside.near.items)
    (c.place_of.ensures ∙ ap (λ n. min n (2 ^ 64 - 1)) (omega arith)) c.min-count.ensures (omega arith) (omega arith)

left : (c : goal.After-self-1) → c.drop-drain.new.self.0.items ≡ drop c.min-count.result c.self.inside.near.items
left c = c.drop-drain.ensures.items ∙ c.drain.ensures.kept

pub invariant_of-self : goal.invariant_of-self
invariant_of-self c =
    let was = c.self.invariant.sound in
    record {
      sound = record {
        width_above = was.width_above;
        width_most = was.width_most;
        row_most = omega (arith, was.row_most);
        col_most = was.col_most;
        ascii = rw (left c) (All-drop (λ b. b < 128) c.min-count.result c.self.inside.near.items was.ascii);
        sparse = rw (left c) (sparse_dropped c.self.inside.width c.args.rows c.min-count.result c.self.inside.near.items c.self.inside.far.items c.drop_rows.new.cells.items
            (dropped c) c.drop_rows.ensures.raised (c.drop_rows.ensures.sparse c.self.inside.width _ was.sparse));
      };
      trimmed = rw (left c) (trimmed_drop c.self.inside.near.items c.min-count.result c.self.invariant.trimmed);
      ended = c.drop_rows.ensures.ended c.self.invariant.ended;
    }

pub returns-clause-near : goal.returns-clause-near
returns-clause-near c h blanks =
    trimmed_rows c.self.inside.width c.drop-drain.new.self.0.items c.drop_rows.new.cells.items h c.self.invariant.sound.width_above
    (rw (left c) (trimmed_drop c.self.inside.near.items c.min-count.result c.self.invariant.trimmed)) blanks

pub returns-clause-raised : goal.returns-clause-raised
returns-clause-raised c =
    rw (left c, ← c.self.view_is) (ap (λ cell. record { cell = cell; row = c.self.inside.row - c.args.rows; col = c.self.inside.col })
    (shown_raised c.self.inside.width c.args.rows c.min-count.result c.self.inside.near.items c.self.inside.far.items c.drop_rows.new.cells.items (dropped c) c.drop_rows.ensures.raised))
