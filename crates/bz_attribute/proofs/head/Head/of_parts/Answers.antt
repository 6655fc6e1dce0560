use Rattle.std.proofs.Common.{◌≡◌, ◌-◌, ℕ, List, length, map, take, drop, ap, sym, ◌∙◌}
use Rattle.bz_tree.specs.declared.row.Part.{Part}
use Rattle.bz_tree.specs.Rows.{RowPart, part_view, parts_of}
use Rattle.bz_tree.specs.Tree.{Statement}
use Rattle.bz_attribute.specs.private.Parts.{above_len, opens_call, token_texts, tokens_len}
use Rattle.bz_attribute.proofs.Headed.{after_comments, after_tokens, headed, no_head}
use Rattle.bz_attribute.proofs.Slices.{rest_seen}
use Rattle.bz_attribute.proofs.head.Head.of_parts.Goals as goal

-- the parts after the comments
abbrev rest : List Part → ℕ → List Part
rest ps n = take (length ps - n) (drop n ps)

begun : (ps : List Part) (s : Statement) (n : ℕ) → n ≡ above_len (map part_view ps) → map part_view ps ≡ parts_of s → map part_view (rest ps n) ≡ after_comments (parts_of s)
begun ps s n is are = rest_seen ps n ∙ ap (λ (k : ℕ). drop k (map part_view ps)) is ∙ ap after_comments are

called : (ps : List Part) (s : Statement) (n m : ℕ) → n ≡ above_len (map part_view ps) → map part_view ps ≡ parts_of s → m ≡ tokens_len (map part_view (rest ps n))
    → opens_call (map part_view (rest (rest ps n) m)) ≡ opens_call (after_tokens (after_comments (parts_of s)))
called ps s n m is are tokens =
    ap opens_call (rest_seen (rest ps n) m ∙ ap (λ (k : ℕ). drop k (map part_view (rest ps n))) tokens) ∙ ap (λ (qs : List RowPart). opens_call (after_tokens qs)) (begun ps s n is are)

pub returns-then-not-is_called : goal.returns-then-not-is_called
returns-then-not-is_called c s class are start end =
    no_head s class (sym (called c.args.parts.now s c.comments_len.result c.tokens_len.result c.comments_len.ensures.len are c.tokens_len.ensures.len) ∙ sym c.is_called.ensures ∙ c.if-not-is_called.true)

pub returns : goal.returns
returns c s class are start end =
    let r = headed s class (sym (called c.args.parts.now s c.comments_len.result c.tokens_len.result c.comments_len.ensures.len are c.tokens_len.ensures.len) ∙ sym c.is_called.ensures ∙ c.if-not-is_called.false) in
    record {
      rule = r.rule;
      is = r.is;
      kind_is = sym (c.in_ok-kind.ensures ∙ ap token_texts (begun c.args.parts.now s c.comments_len.result c.comments_len.ensures.len are) ∙ r.kind_is);
      name_is = c.in_ok-name.ensures ∙ c.name_text.ensures s r.rule (record { are = are; rule = r.is });
      start_is = start;
      end_is = end;
    }
