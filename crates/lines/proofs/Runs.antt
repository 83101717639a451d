-- The lines that a run of calls of `next` hands out.
use Rattle.std.proofs.Common.{◌≡◌, ℕ, ◌+◌, List, [], ◌∷◌, ◌++◌, drop, sym, ap, ◌∙◌}
use Rattle.std.proofs.lemmas.List.{append-nil}
use Rattle.lines.specs.Lines.{lines_of}
use Rattle.lines.specs.Runs.{ahead, Run, numbered, contents, HandsOutInOrder, HandsOutAll}
use Rattle.lines.specs.declared.reader.Line.{Line}
use Rattle.lines.specs.declared.reader.Reader.{Reader}

-- the lines ahead of a reader, with their numbers
abbrev numbered_ahead : Reader → List (ℕ × List ℕ)
numbered_ahead reader = numbered (reader.count + 1) (ahead reader)

run_in_order : (before : Reader) (lines : List Line) (after : Reader) → Run before lines after → contents lines ++ numbered_ahead after ≡ numbered_ahead before
run_in_order before [] after is = ap numbered_ahead is
run_in_order before (line ∷ lines) after (next, step, run) = cc (run_in_order next lines after run)

module _ (reader : Reader) (text : List ℕ) (whole : reader.text.now ≡ text) (none : reader.count ≡ 0) where
  pub hands_out_in_order : HandsOutInOrder reader text
  hands_out_in_order lines after run = run_in_order reader lines after run ∙ (λ i. numbered (none i + 1) (drop (none i) (lines_of (whole i))))

  pub hands_out_all : HandsOutAll reader text
  hands_out_all lines after end run (done, _) =
      sym (append-nil (contents lines)) ∙ ap (λ ls. contents lines ++ numbered (after.count + 1) ls) (sym done) ∙ hands_out_in_order lines after run
