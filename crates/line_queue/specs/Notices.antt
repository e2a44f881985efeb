-- The notice that stands in place of lines.
use Rattle.std.specs.Prelude.{ℕ, List, ◌++◌, codes, decimal}
use Rattle.line_queue.specs.declared.notice.Notice.{Notice}

-- its words around the number: "! 3 lines dropped", and LF
abbrev pub notice_text : Notice → ℕ → List ℕ
notice_text notice count =
    notice.mark.now ++ decimal count ++ codes " " ++ notice.lines.now ++ codes " dropped\n"
