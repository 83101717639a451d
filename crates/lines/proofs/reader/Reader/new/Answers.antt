-- The laws of a reader's runs and of a text's lines.
use Rattle.std.proofs.Common.{refl}
use Rattle.lines.proofs.Lines.{lines_are_laid_out}
use Rattle.lines.proofs.Runs.{hands_out_in_order, hands_out_all}
use Rattle.lines.proofs.reader.Reader.new.Goals as goal

pub returns-clause-hands_out_in_order : goal.returns-clause-hands_out_in_order
returns-clause-hands_out_in_order c = hands_out_in_order _ _ refl refl

pub returns-clause-hands_out_all : goal.returns-clause-hands_out_all
returns-clause-hands_out_all c = hands_out_all _ _ refl refl

pub returns-clause-lines_are_laid_out : goal.returns-clause-lines_are_laid_out
returns-clause-lines_are_laid_out c = lines_are_laid_out
