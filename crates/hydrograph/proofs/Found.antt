-- What `find` says of the entries: it hands out the first line that is not passed over.
use Rattle.std.proofs.Common.{◌≡◌, [], ◌∷◌, Bool, true, false, not, Some, None, Option, arith, rules, tests, Bor}
use denote.Param.Members.{Mut}
use Rattle.std.specs.Fn.{CalledAt}
use Rattle.std.specs.Iterator.{FindsItem}
use Rattle.hydrograph.specs.Entries.{NextEntry, passed}
use Rattle.lines.specs.Runs.{NextLine}
use Rattle.lines.specs.declared.reader.Line.{Line}
use Rattle.lines.specs.declared.reader.Reader.{Reader}

-- what is sought after a line that is passed over is sought before it
later : (s j u : Reader) (x : Line) (r : Option Line) → NextLine s (Some x) j → passed x.bytes.now ≡ true → NextEntry j r u → NextEntry s r u
later s j u x None n p e = rw (n.0, p) (grind arith)
later s j u x (Some line) n p e = (grind arith, grind arith)

-- a closure that tells of a line whether it is not passed over
module _ {F : Type 0} (g : Mut F (Bor Line × Unit {0}) Bool)
    (tells : (q : F) (x : Line) (b : Bool) (h : F) → CalledAt g q x b h → b ≡ not (passed x.bytes.now)) where
  pub found : (s u : Reader) (f : F) (r : Option Line) → FindsItem NextLine g s f r u → NextEntry s r u
  found s u f None ([], f', (t, same, n), k, h) = grind arith
  found s u f (Some x) ([], f', (t, same, n), k, (q, called)) =
      let told : passed x.bytes.now ≡ false = search (rules, tests, tells f' x true q called) in
      (grind arith, grind arith)
  found s u f r (x ∷ xs, f', (t, (j, n, ys), last), (q, called, ks), h) =
      later s j u x r n (search (rules, tests, tells f x false q called)) (found j u q r (xs, f', (t, ys, last), ks, h))
