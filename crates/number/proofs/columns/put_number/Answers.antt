-- `number::columns::put_number` meets its contract, the law of a column: digits, a minus, then spaces.
use mathlib.Core.Path.{ap}
use native.Mathlib.Omega.{arith}
use borrow.Author.Rules.{rules}
use lib.ListN.{length, length-set}
use Rattle.number.proofs.Put.{numeral-small, numeral_large, put_small, put-large}
use Rattle.number.proofs.Written.{word_written}
use Rattle.number.proofs.columns.put_number.Goals as goal

pub put_digits-at-requires : goal.put_digits-at-requires
put_digits-at-requires c = let e = ap length (numeral-small c.args.word (omega arith)) in omega arith

pub put_spaces-requires : goal.put_spaces-requires
put_spaces-requires c =
    let put-digits = c.put_digits-at in
    let e = ap length (numeral-small c.args.word (omega arith)) in omega (arith, put-digits.ensures.0, put-digits.auto.line)

pub returns-then-word-lt2147483648 : goal.returns-then-word-lt2147483648
returns-then-word-lt2147483648 c =
    let a = c.args in
    let s = c in
    let put-digits = c.put_digits-at in
    let if1 = c.if-word-lt2147483648 in
    word_written s.requires.1 s.requires.0 (search rules)
    (put_small a.line.now _ _ a.from a.width a.word put-digits.result s.requires.0 if1.true put-digits.ensures.0 put-digits.ensures.1
    c.put_spaces.ensures)

pub put_digits-first-requires : goal.put_digits-first-requires
put_digits-first-requires c = let e = ap length (numeral_large c.args.word c.wrapping_neg.result (omega arith) (omega arith) (omega (arith, c.wrapping_neg.ensures))) in omega arith

pub overflow_sub-at : goal.overflow_sub-at
overflow_sub-at c = let e = ap length (numeral_large c.args.word c.wrapping_neg.result (omega arith) (omega arith) (omega (arith, c.wrapping_neg.ensures))) in omega (arith, c.put_digits-first.ensures.0)

pub bounds-line-at : goal.bounds-line-at
bounds-line-at c =
    let put-digits2 = c.put_digits-first in
    let e = ap length (numeral_large c.args.word c.wrapping_neg.result (omega arith) (omega arith) (omega (arith, c.wrapping_neg.ensures))) in omega (arith, put-digits2.ensures.0, put-digits2.auto.line)

pub put_spaces-requires-2 : goal.put_spaces-requires-2
put_spaces-requires-2 c =
    let put-digits2 = c.put_digits-first in
    let e = ap length (numeral_large c.args.word c.wrapping_neg.result (omega arith) (omega arith) (omega (arith, c.wrapping_neg.ensures))) in simp length-set (omega (arith, put-digits2.ensures.0, put-digits2.auto.line))

pub returns : goal.returns
returns c =
    let a = c.args in
    let s = c in
    let put-digits2 = c.put_digits-first in
    let if1 = c.if-word-lt2147483648 in
    word_written s.requires.1 s.requires.0 (search rules)
    (put-large a.line.now _ _ a.from a.width a.word put-digits2.result s.requires.0 c.wrapping_neg.result if1.false (search rules) (omega (arith, c.wrapping_neg.ensures)) put-digits2.ensures.0
    put-digits2.ensures.1 c.put_spaces-2.ensures)
