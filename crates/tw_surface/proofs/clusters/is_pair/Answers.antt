use Rattle.std.proofs.Common.{◌≡◌, true, sym, ◌∙◌}
use Rattle.std.proofs.lemmas.Bool.{false≢true}
use Rattle.ucd_table.specs.Rows.{in_ranges}
use Rattle.unicode_width.specs.Width.{is_emoji_modifier_base}
use Rattle.tw_surface.specs.Clusters.{picture_blocks}
use Rattle.tw_surface.proofs.LoneWidths.{flag_front, selected_front, toned_front}
use Rattle.tw_surface.proofs.clusters.is_pair.Goals.{then-is_in_picture_block, else-is_in_picture_block}
use Rattle.tw_surface.proofs.clusters.is_pair.Goals as goal

pub returns-then-stands_alone : goal.returns-then-stands_alone
returns-then-stands_alone c base =
    selected_front c.args.first c.args.second (sym c.stands_alone.ensures ∙ c.if-stands_alone.true) (sym c.is_emoji_variation_base.ensures ∙ base) c.if-second-eq-SELECTOR.true

pub returns-then-is_flag_letter : goal.returns-then-is_flag_letter
returns-then-is_flag_letter c half =
    flag_front c.args.first c.args.second (sym c.is_flag_letter.ensures ∙ c.if-is_flag_letter.true) (sym c.is_flag_letter-then-is_flag_letter.ensures ∙ half)

pub returns-then-is_emoji_modifier_base : goal.returns-then-is_emoji_modifier_base
returns-then-is_emoji_modifier_base c tone =
    toned_front c.args.first c.args.second parts.0 parts.1 (sym c.is_skin_tone.ensures ∙ tone)
  where
    parts : (in_ranges picture_blocks c.args.first ≡ true) × (is_emoji_modifier_base c.args.first ≡ true)
    parts = elim c.if-is_in_picture_block.branch [
      | then-is_in_picture_block w ↦ (
        sym c.is_in_picture_block.ensures ∙ w.if-is_in_picture_block.true,
        sym w.is_emoji_modifier_base.ensures ∙ sym w.value-is ∙ c.if-is_emoji_modifier_base.true,
      )
      | else-is_in_picture_block w ↦ absurd (false≢true (sym w.if-is_in_picture_block.false ∙ sym w.value-is ∙ c.if-is_emoji_modifier_base.true))
    ]
