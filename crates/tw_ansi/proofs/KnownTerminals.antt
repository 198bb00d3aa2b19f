-- What changes leave of what is known of a terminal.
use Rattle.std.proofs.Common.{◌≡◌, ◌+◌, ℕ, Bool, true, false, ◌&&◌, not, cond, eqb, leb, List, [], ◌∷◌, ◌∙◌, refl}
use Rattle.std.specs.Cmp.Lexicographic.{pointwise}
use Rattle.std.specs.List.{list_all}
use Rattle.unicode_segmentation.specs.Grapheme.{graphemes}
use Rattle.tw_surface.specs.declared.cell.CellAttributes.{CellAttributes}
use Rattle.tw_surface.specs.declared.color.ColorAttribute.{ColorAttribute}
use Rattle.tw_surface.specs.ChangeView.{ChangeView, Batch, Attribute, AllAttributes, Text, ClearScreen, ClearToEndOfScreen, CursorPosition}
use Rattle.tw_surface.specs.Characters.{is_plain, cr, lf}
use Rattle.tw_surface.specs.Width.{cluster_width}
use Rattle.tw_ansi.specs.declared.encode.Encoder.{Encoder}
use Rattle.tw_ansi.specs.Encoding.{Sent, sent_feed, sent_beginning, sent_byte, sent_cluster, sent_plain, sent_clusters, sent_text, sent_change, sent_batch}

-- either of two that leave the same
either : {K : Type 0} (known : Encoder → K) (t : Bool) (x y : Sent) (k : K) → known x.next ≡ k → known y.next ≡ k → known (cond t x y).next ≡ k
either known true x y k p q = p
either known false x y k p q = q

abbrev attributes_of : Encoder → CellAttributes
attributes_of e = e.attributes

abbrev cols_of : Encoder → ℕ
cols_of e = e.cols

-- ---- attributes

begins_keeping : (e : Encoder) (width : ℕ) → (sent_beginning e width).next.attributes ≡ e.attributes
begins_keeping e width = either attributes_of (eqb width 0) _ _ _ refl (either attributes_of (leb (e.x + width) e.cols) _ _ _ refl refl)

-- a plain text changes no attribute
pub keeps_byte : (e : Encoder) (b : ℕ) → (sent_byte e b).next.attributes ≡ e.attributes
keeps_byte e b =
    either attributes_of (eqb b cr) _ _ _ refl (either attributes_of (eqb b lf) _ _ _ (either attributes_of _ _ _ _ refl refl) (begins_keeping e 1))

keeps_plain : (text : List ℕ) (e : Encoder) → (sent_plain text e).next.attributes ≡ e.attributes
keeps_plain [] e = refl
keeps_plain (b ∷ text) e = keeps_plain text (sent_byte e b).next ∙ keeps_byte e b

pub keeps_cluster : (e : Encoder) (cluster : List ℕ) → (sent_cluster e cluster).next.attributes ≡ e.attributes
keeps_cluster e cluster =
    either attributes_of (pointwise eqb cluster (cr ∷ [])) _ _ _ refl
    (either attributes_of (pointwise eqb cluster (lf ∷ [])) _ _ _ (either attributes_of _ _ _ _ refl refl)
    (either attributes_of (pointwise eqb cluster (cr ∷ lf ∷ [])) _ _ _ refl (begins_keeping e (cluster_width cluster))))

keeps_clusters : (clusters : List (List ℕ)) (e : Encoder) → (sent_clusters clusters e).next.attributes ≡ e.attributes
keeps_clusters [] e = refl
keeps_clusters (cluster ∷ more) e = keeps_clusters more (sent_cluster e cluster).next ∙ keeps_cluster e cluster

pub keeps_text : (text : List ℕ) (e : Encoder) → (sent_text text e).next.attributes ≡ e.attributes
keeps_text text e = either attributes_of (list_all is_plain text) _ _ _ (keeps_plain text e) (keeps_clusters (graphemes true text) e)

-- nor does a clearing
pub clear_keeps : (color : ColorAttribute) (e : Encoder) → (sent_change (ClearToEndOfScreen color) e).next.attributes ≡ e.attributes
clear_keeps color e = either attributes_of (leb e.cols e.x) _ _ _ refl (either attributes_of (eqb e.x 0) _ _ _ refl refl)

-- ---- columns

begins_in : (e : Encoder) (width : ℕ) → (sent_beginning e width).next.cols ≡ e.cols
begins_in e width = either cols_of (eqb width 0) _ _ _ refl (either cols_of (leb (e.x + width) e.cols) _ _ _ refl refl)

feeds_in : (e : Encoder) → (sent_feed e).next.cols ≡ e.cols
feeds_in e = either cols_of (leb e.cols e.x && not e.parted) _ _ _ refl refl

pub byte_in : (e : Encoder) (b : ℕ) → (sent_byte e b).next.cols ≡ e.cols
byte_in e b = either cols_of (eqb b cr) _ _ _ refl (either cols_of (eqb b lf) _ _ _ (feeds_in e) (begins_in e 1))

pub cluster_in : (e : Encoder) (cluster : List ℕ) → (sent_cluster e cluster).next.cols ≡ e.cols
cluster_in e cluster =
    either cols_of (pointwise eqb cluster (cr ∷ [])) _ _ _ refl
    (either cols_of (pointwise eqb cluster (lf ∷ [])) _ _ _ (feeds_in e)
    (either cols_of (pointwise eqb cluster (cr ∷ lf ∷ [])) _ _ _ refl (begins_in e (cluster_width cluster))))

plain_in : (text : List ℕ) (e : Encoder) → (sent_plain text e).next.cols ≡ e.cols
plain_in [] e = refl
plain_in (b ∷ text) e = plain_in text (sent_byte e b).next ∙ byte_in e b

clusters_in : (clusters : List (List ℕ)) (e : Encoder) → (sent_clusters clusters e).next.cols ≡ e.cols
clusters_in [] e = refl
clusters_in (cluster ∷ more) e = clusters_in more (sent_cluster e cluster).next ∙ cluster_in e cluster

change_in : (change : ChangeView) (e : Encoder) → (sent_change change e).next.cols ≡ e.cols
change_in (Text text) e = either cols_of (list_all is_plain text) _ _ _ (plain_in text e) (clusters_in (graphemes true text) e)
change_in (Attribute change) e = refl
change_in (AllAttributes to) e = refl
change_in (ClearScreen color) e = refl
change_in (ClearToEndOfScreen color) e = either cols_of (leb e.cols e.x) _ _ _ refl (either cols_of (eqb e.x 0) _ _ _ refl refl)
change_in (CursorPosition x y) e = refl

-- no batch changes the columns that are known
pub batch_in : (batch : Batch) (e : Encoder) → (sent_batch batch e).next.cols ≡ e.cols
batch_in [] e = refl
batch_in (change ∷ batch) e = batch_in batch (sent_change change e).next ∙ change_in change e
