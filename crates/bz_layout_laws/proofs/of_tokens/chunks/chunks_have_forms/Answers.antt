use Rattle.std.proofs.Common.{refl}
use Rattle.bz_token.specs.Groups.{grouped}
use Rattle.bz_token.specs.LogicalLines.{lines}
use Rattle.bz_token.specs.Chunks.{chunk_goes_on}
use Rattle.bz_token.proofs.ChunkForms.{have_forms, all_lines}
use Rattle.bz_layout_laws.proofs.of_tokens.chunks.chunks_have_forms.Goals as goal

pub returns : goal.returns
returns c = λ bytes. (grouped chunk_goes_on (lines bytes), all_lines (lines bytes), refl, have_forms (lines bytes))
