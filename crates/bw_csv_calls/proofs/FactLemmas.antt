-- The comments after a schema's text say nothing, and are short.
use Rattle.std.proofs.Common.{◌≡◌, ◌∙◌, refl, sym, ap, subst, ℕ, ◌+◌, ◌*◌, ◌/◌, ◌^◌, ◌<◌, ◌≤◌, true}
use Rattle.std.proofs.Common.{List, [], ◌∷◌, ◌++◌, length, append_assoc, length-append, codes}
use Rattle.std.proofs.Common.{arith, decimal, append-nil, mul-le-mul_left}
use Rattle.std.specs.List.{list_all}
use Rattle.bw_model.specs.declared.schema.Schema.{Schema}
use Rattle.bw_text.specs.Lines.{cut_lines, numbered_from}
use Rattle.bw_model.specs.SchemaText.{IsSchemaText, schema_shape}
use Rattle.bw_file.specs.declared.layout.Layout.{Layout}
use Rattle.bw_file.specs.declared.layout.Layout.TheVariants.{Planes, Slices}
use Rattle.bw_file.specs.declared.order.FileOrder.TheVariants.{ByRows}
use Rattle.bw_file.specs.Blocks.{segment_size}
use Rattle.bw_file.specs.FileBytes.{header_bytes}
use Rattle.bw_csv_calls.specs.PrintedSchema.{AreComments, schema_text}
use Rattle.bw_csv_calls.proofs.PrintedBounds.{natural_short}
use Rattle.bw_text.proofs.DecimalLemmas.{plain_number}
use Rattle.bw_text.specs.Printing.{is_plain_word, spaced_words}
use Rattle.bw_text.proofs.SpacedWords.{line_skipped}
use Rattle.bw_csv_calls.proofs.PrintedText.{no_comments}
use Rattle.bw_csv_calls.specs.Info.{comment, facts_text, file_size, info_text, layout_word}
use Rattle.bw_csv_calls.specs.Info.{segment_count}

-- a comment line in front of comments
comment_more : (word value rest : List ℕ) → is_plain_word word ≡ true → is_plain_word value ≡ true → AreComments rest → AreComments (comment word value ++ rest)
comment_more word value rest plain said are number =
    let all : list_all is_plain_word (word ∷ value ∷ []) ≡ true = rw (plain, said) refl in
    line_skipped number (35 ∷ []) (word ∷ value ∷ []) rest refl refl all ∙ are (number + 1)

comment_last : (word value : List ℕ) → is_plain_word word ≡ true → is_plain_word value ≡ true → AreComments (comment word value)
comment_last word value plain said number =
    ap (λ (l : List ℕ). numbered_from number (cut_lines l)) (sym (append-nil (comment word value))) ∙ comment_more word value [] plain said no_comments number

layout_plain : (layout : Layout) → is_plain_word (layout_word layout) ≡ true
layout_plain Planes = refl
layout_plain Slices = refl

layout_short : (layout : Layout) → length (layout_word layout) ≤ 20
layout_short Planes = omega arith
layout_short Slices = omega arith

-- numbers that 64 bits hold
pub record AreSmall (version rows size : ℕ) : Type 0 where
  pub told : version < 2 ^ 64
  pub within_limit : rows < 2 ^ 32
  pub bounded : size < 2 ^ 64

pub facts_are_comments : (version : ℕ) (layout : Layout) (rows size : ℕ) → AreSmall version rows size → AreComments (facts_text version layout rows size)
facts_are_comments version layout rows size small =
    comment_more (codes "rows") (decimal rows) _ refl (plain_number rows (omega (arith, small.within_limit)))
    (comment_more (codes "segments") (decimal (segment_count rows)) _ refl (plain_number (segment_count rows) (omega (arith, small.within_limit)))
    (comment_more (codes "layout") (layout_word layout) _ refl (layout_plain layout)
    (comment_more (codes "version") (decimal version) _ refl (plain_number version small.told)
    (comment_last (codes "bytes") (decimal size) refl (plain_number size small.bounded)))))

pub facts_short : (version : ℕ) (layout : Layout) (rows size : ℕ) → AreSmall version rows size → length (facts_text version layout rows size) ≤ 4096
unfolding spaced_words
facts_short version layout rows size small =
    let a = natural_short rows (omega (arith, small.within_limit)) in
    let b = natural_short (segment_count rows) (omega (arith, small.within_limit)) in
    let c = layout_short layout in
    let d = natural_short version small.told in
    let e = natural_short size small.bounded in
    simp length-append (omega arith)

-- the text, put together line by line
pub joined : (s a b c d e one two three four five : List ℕ) → one ≡ s ++ a → two ≡ one ++ b → three ≡ two ++ c → four ≡ three ++ d → five ≡ four ++ e
    → five ≡ s ++ (a ++ (b ++ (c ++ (d ++ e))))
joined s a b c d e one two three four five p q r t u =
    u ∙ ap (λ (l : List ℕ). l ++ e) t ∙ append_assoc three d e ∙ ap (λ (l : List ℕ). l ++ (d ++ e)) r ∙ append_assoc two c (d ++ e)
    ∙ ap (λ (l : List ℕ). l ++ (c ++ (d ++ e))) q ∙ append_assoc one b (c ++ (d ++ e)) ∙ ap (λ (l : List ℕ). l ++ (b ++ (c ++ (d ++ e)))) p
    ∙ append_assoc s a (b ++ (c ++ (d ++ e)))

-- so the text is what a header says, by its numbers
pub told_by : (version : ℕ) (layout : Layout) (schema : Schema) (rows size : ℕ) (s w one two three four five : List ℕ) (r g v z : ℕ)
    → one ≡ s ++ comment (codes "rows") (decimal r) → two ≡ one ++ comment (codes "segments") (decimal g)
    → three ≡ two ++ comment (codes "layout") w → four ≡ three ++ comment (codes "version") (decimal v)
    → five ≡ four ++ comment (codes "bytes") (decimal z) → s ≡ schema_text (schema_shape schema) → w ≡ layout_word layout
    → r ≡ rows → g ≡ segment_count rows → v ≡ version → z ≡ size
    → five ≡ info_text version layout schema rows size
unfolding info_text
told_by version layout schema rows size s w one two three four five r g v z p q t u x is word a b c d =
    joined s _ _ _ _ _ one two three four five p q t u x ∙ rw (is, word, a, b, c, d) refl

-- the size of a file, by that of its header and of a segment
pub size_by : (version : ℕ) (layout : Layout) (schema : Schema) (rows head count size : ℕ) → head ≡ length (header_bytes ByRows version layout schema.name schema.columns.items rows) → count ≡ rows
    → size ≡ segment_size layout schema.columns.items → head + (count + 511) / 512 * size ≡ file_size version layout schema rows
size_by version layout schema rows head count size p q r = rw (p, q, r) refl

-- the text spells the schema, whose text it begins with
pub spelled_by : (version : ℕ) (layout : Layout) (schema : Schema) (rows size : ℕ) (s text : List ℕ) → AreSmall version rows size → s ≡ schema_text (schema_shape schema)
    → ((comments : List ℕ) → AreComments comments → length comments ≤ 4096 → IsSchemaText (s ++ comments) (schema_shape schema)) → text ≡ info_text version layout schema rows size
    → IsSchemaText text (schema_shape schema)
unfolding info_text
spelled_by version layout schema rows size s text small is spelled e =
    let facts = facts_text version layout rows size in
    subst (λ (l : List ℕ). IsSchemaText l (schema_shape schema)) (ap (λ (l : List ℕ). l ++ facts) is ∙ sym e)
    (spelled facts (facts_are_comments version layout rows size small) (facts_short version layout rows size small))

-- the text by equal numbers
pub info_same : (version other : ℕ) (L M : Layout) (S T : Schema) (rows count size bytes : ℕ) → version ≡ other → L ≡ M → S ≡ T → rows ≡ count → size ≡ bytes
    → info_text version L S rows size ≡ info_text other M T count bytes
info_same version other L M S T rows count size bytes a b c d e = rw (a, b, c, d, e) refl
