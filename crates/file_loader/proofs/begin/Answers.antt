-- `file_loader::begin` meets its contract. Assumes nothing.
use Rattle.std.proofs.Common.{sym, ◌∙◌}
use Rattle.file_loader.proofs.Files.{too_long, bad_header, begun, bad_context, bad_count}
use Rattle.file_loader.proofs.begin.Goals as goal

pub returns-then-file-gt-MOST_FILE_BYTES : goal.returns-then-file-gt-MOST_FILE_BYTES
returns-then-file-gt-MOST_FILE_BYTES c = λ others. too_long _ _ others c.if-file-gt-MOST_FILE_BYTES.true

pub returns-in_default : goal.returns-in_default
returns-in_default c = λ others. bad_header _ _ others c.if-file-gt-MOST_FILE_BYTES.false c.in_default.ensures.read

pub returns-then-header-gt3 : goal.returns-then-header-gt3
returns-then-header-gt3 c =
    let b = begun _ _ _ _ c.if-file-gt-MOST_FILE_BYTES.false c.in-Some.ensures.read.0 in
    λ others. bad_context _ _ _ _ _ b others c.if-header-gt3.true

pub returns-then-is_bad_count : goal.returns-then-is_bad_count
returns-then-is_bad_count c =
    let b = begun _ _ _ _ c.if-file-gt-MOST_FILE_BYTES.false c.in-Some.ensures.read.0 in
    λ others. bad_count _ _ _ _ _ b others c.if-header-gt3.false (sym c.is_bad_count.ensures ∙ c.if-is_bad_count.true)

pub returns : goal.returns
returns c =
    record {
      begun = begun _ _ _ _ c.if-file-gt-MOST_FILE_BYTES.false c.in-Some.ensures.read.0;
      is_start = c.in-Some.ensures.read.1;
      ok = c.if-header-gt3.false;
      fits = sym c.is_bad_count.ensures ∙ c.if-is_bad_count.false;
    }
