use Rattle.std.proofs.Common.{◌≡◌, [], ◌∷◌, ◌++◌, map, Ok, ap, sym, ◌∙◌, subst, arith}
use Rattle.std.proofs.lemmas.List.{map-append}
use Rattle.py_syntax.specs.Expressions.{expr_tree, arg_tree, entry_tree, comparison_tree}
use Rattle.py_parser_grammar.specs.Grammar.{TEST, ARG, ENTRY}
use Rattle.py_parser_expressions.specs.declared.parsed.Parsed.{Parsed}
use Rattle.py_parser_expressions.specs.Heads.{head_of, alternative_seen, AreHeads}
use Rattle.py_parser_cursor.specs.Operators.{more_of}
use Rattle.py_parser_expressions.specs.Parsed.{seen, piece_of, exprs_seen, args_seen, entries_seen, comparisons_seen}
use Rattle.py_parser_expressions.specs.Prefixes.{conditionals, reads_condition}
use Rattle.py_parser_expressions.specs.Rows.{fronted, reads_trees}
use Rattle.py_parser_expressions.proofs.BracketReading.{list_close_fails}
use Rattle.py_parser_expressions.proofs.ChainReading.{chain_start, chain_more}
use Rattle.py_parser_expressions.proofs.ComparisonReading.{one_more_some, first_comparison, more_comparisons, comparisons_end, first_fails, next_fails, comp_alone, comp_made, comparisons_fail}
use Rattle.py_parser_expressions.proofs.Conditions.{test_start, test_more, test_end, alternative_fails}
use Rattle.py_parser_expressions.proofs.ExprEquations.{growth_makes, growth_lacks}
use Rattle.py_parser_cursor.proofs.Faults.{exit_gives, gives_at}
use Rattle.py_parser_expressions.proofs.HeadLemmas.{heads_push}
use Rattle.py_parser_expressions.proofs.PrefixReading.{nots_more, nots_end, signs_more, signs_end}
use Rattle.py_parser_expressions.proofs.RowReading.{trees_more, trees_last, trees_comma_fails, row_step, row_stop, next_comma_fails}
use Rattle.py_parser_expressions.proofs.+expression.Goals as goal

pub expression::test-heads-preserved : goal.expression::test-heads-preserved
expression::test-heads-preserved t c =
    let ts = c.args.tokens.now in
    let last = c.heads.last in
    let condition = c.in_ok-condition.condition in
    let other = c.in_ok-condition.other in
    let h : Parsed × Parsed = (last, condition) in
    let is : c.push.new.self.items ≡ c.heads.heads.items ++ h ∷ [] = c.in_ok-push.ensures.items in
    record {
      so_far =
          test_more ts c.args.place (map head_of c.heads.heads.items) (piece_of last) last.place (alternative_seen (condition, other)) c.heads.invariant.so_far
          (sym c.sees_key.ensures ∙ c.heads-test.true) c.in_ok-condition.ensures.read
          ∙ ap (λ hs. conditionals hs (reads_condition ts (piece_of other) other.place)) (sym (ap (map head_of) is ∙ map-append head_of c.heads.heads.items (h ∷ [])));
      heads = subst AreHeads (sym is) (heads_push c.heads.heads.items h c.heads.invariant.heads (record { value = c.heads.invariant.moves.finished; test = c.in_ok-condition.ensures.finished.value }));
      moves = record {
        on = omega (arith, c.heads.invariant.moves.on, c.in_ok-condition.ensures.moves.on);
        within = c.in_ok-condition.ensures.moves.within;
        finished = c.in_ok-condition.ensures.finished.test;
      };
    }

pub expression::items-items-preserved : goal.expression::items-items-preserved
expression::items-items-preserved t c =
    let ts = c.args.tokens.now in
    let item = c.in_ok-item.item in
    let place_is = c.in_ok-found.ensures.place in
    let at_is = ap (λ p. p.at) place_is in
    record {
      so_far =
          c.items.invariant.so_far
          ∙ trees_more ts TEST c.items.next (map expr_tree c.items.found.list) (seen item) (c.in_ok-behind.field-0-0.now, c.in_ok-behind.behind)
          (sym c.begins_test.ensures ∙ c.items-test.true) c.in_ok-item.ensures.read
          (rw (← place_is) (sym c.sees_sign.ensures ∙ c.if-not-sees_sign.false)) (rw (← place_is) c.in_ok-behind.ensures.read)
          ∙ ap (λ l. fronted l (reads_trees ts TEST c.in_ok-behind.behind)) (sym c.in_ok-found.ensures.list);
      moves = record {
        on = omega (arith, at_is, c.items.invariant.moves.on, c.in_ok-item.ensures.moves.on, c.in_ok-behind.ensures.at);
        within = λ h. c.in_ok-behind.ensures.within;
      };
      row = c.in_ok-found.ensures.row;
    }

pub chain::chain-growth-preserved : goal.chain::chain-growth-preserved
chain::chain-growth-preserved t c =
    let ts = c.args.tokens.now in
    let left = c.growth.left in
    record {
      so_far =
          c.growth.invariant.so_far
          ∙ chain_more ts (more_of c.args.level) (piece_of left) left.place (seen c.in_ok-left-2.left) (sym c.goes_on.ensures ∙ c.growth-test.true) c.in_ok-left-2.ensures.read;
      moves = record {
        on = omega (arith, c.growth.invariant.moves.on, c.in_ok-left-2.ensures.moves.on);
        within = c.in_ok-left-2.ensures.moves.within;
        finished = c.in_ok-left-2.ensures.moves.finished;
      };
    }

pub trailer::arguments-arguments-preserved : goal.trailer::arguments-arguments-preserved
trailer::arguments-arguments-preserved t c =
    let ts = c.args.tokens.now in
    record {
      so_far =
          c.arguments.invariant.so_far
          ∙ row_step ts ARG c.arguments.next (map arg_tree c.arguments.found.list) (args_seen c.in_ok-found.found) (c.in_ok-behind.field-0-0.now, c.in_ok-behind.behind)
          (sym c.begins_test.ensures ∙ c.arguments-test.true) c.in_ok-found.ensures.read
          (sym c.sees_sign.ensures ∙ c.if-not-sees_sign.false) c.in_ok-behind.ensures.read;
      moves = record {
        on = omega (arith, c.arguments.invariant.moves.on, c.in_ok-found.ensures.moves.on, c.in_ok-behind.ensures.at);
        within = λ h. c.in_ok-behind.ensures.within;
      };
      row = c.in_ok-found.ensures.row;
    }

pub display::entries-entries-preserved : goal.display::entries-entries-preserved
display::entries-entries-preserved t c =
    let ts = c.args.tokens.now in
    record {
      so_far =
          c.entries.invariant.so_far
          ∙ row_step ts ENTRY c.entries.next (map entry_tree c.entries.found.list) (entries_seen c.in_ok-found.found) (c.in_ok-behind.field-0-0.now, c.in_ok-behind.behind)
          (sym c.begins_test.ensures ∙ c.entries-test.true) c.in_ok-found.ensures.read
          (sym c.sees_sign.ensures ∙ c.if-not-sees_sign.false) c.in_ok-behind.ensures.read;
      moves = record {
        on = omega (arith, c.entries.invariant.moves.on, c.in_ok-found.ensures.moves.on, c.in_ok-behind.ensures.at);
        within = λ h. c.in_ok-behind.ensures.within;
      };
      row = c.in_ok-found.ensures.row;
    }

pub chain::not_test-nots-preserved : goal.chain::not_test-nots-preserved
chain::not_test-nots-preserved t c =
    let ts = c.args.tokens.now in
    record {
      so_far =
          nots_more ts c.args.place c.nots.inner (c.in_ok-next.field-0-0.now, c.in_ok-next.next) c.nots.invariant.so_far c.nots.invariant.moves.on c.in_ok-next.ensures.token c.in_ok-next.ensures.at
          (sym c.sees_key.ensures ∙ c.nots-test.true) c.in_ok-next.ensures.read;
      moves = record {
        on = omega (arith, c.nots.invariant.moves.on, c.in_ok-next.ensures.at);
        within = λ h. c.in_ok-next.ensures.within;
      };
    }

pub chain::factor-signs-preserved : goal.chain::factor-signs-preserved
chain::factor-signs-preserved t c =
    let ts = c.args.tokens.now in
    let is = c.sign_at.ensures in
    record {
      so_far =
          signs_more ts c.args.place c.signs.inner (c.in_ok-next.field-0-0.now, c.in_ok-next.next) c.signs.invariant.so_far c.signs.invariant.moves.on c.in_ok-next.ensures.token c.in_ok-next.ensures.at
          (sym c.begins_sign.ensures ∙ c.signs-test.true) (rw is at c.in_ok-next.ensures.read);
      moves = record {
        on = omega (arith, c.signs.invariant.moves.on, c.in_ok-next.ensures.at);
        within = λ h. c.in_ok-next.ensures.within;
      };
    }

pub trailer::arguments-returns-then-not-sees_sign-clause-read : goal.trailer::arguments-returns-then-not-sees_sign-clause-read
trailer::arguments-returns-then-not-sees_sign-clause-read t c =
    c.arguments.invariant.so_far
    ∙ row_stop c.args.tokens.now ARG c.arguments.next (map arg_tree c.arguments.found.list) (args_seen c.in_ok-found.found)
    (sym c.begins_test.ensures ∙ c.arguments-test.true) c.in_ok-found.ensures.read (sym c.sees_sign.ensures ∙ c.if-not-sees_sign.true)

pub trailer::arguments-returns-in_err-behind-clause-read : goal.trailer::arguments-returns-in_err-behind-clause-read
trailer::arguments-returns-in_err-behind-clause-read t c =
    exit_gives args_seen _ _ _ c.from_residual-in_err-behind.ensures.1
    (rw c.arguments.invariant.so_far
    (next_comma_fails c.args.tokens.now ARG c.arguments.next (map arg_tree c.arguments.found.list) (args_seen c.in_ok-found.found) _
    (sym c.begins_test.ensures ∙ c.arguments-test.true) c.in_ok-found.ensures.read (sym c.sees_sign.ensures ∙ c.if-not-sees_sign.false) c.in_err-behind.ensures.read))

pub display::entries-returns-then-not-sees_sign-clause-read : goal.display::entries-returns-then-not-sees_sign-clause-read
display::entries-returns-then-not-sees_sign-clause-read t c =
    c.entries.invariant.so_far
    ∙ row_stop c.args.tokens.now ENTRY c.entries.next (map entry_tree c.entries.found.list) (entries_seen c.in_ok-found.found)
    (sym c.begins_test.ensures ∙ c.entries-test.true) c.in_ok-found.ensures.read (sym c.sees_sign.ensures ∙ c.if-not-sees_sign.true)

pub display::entries-returns-in_err-behind-clause-read : goal.display::entries-returns-in_err-behind-clause-read
display::entries-returns-in_err-behind-clause-read t c =
    exit_gives entries_seen _ _ _ c.from_residual-in_err-behind.ensures.1
    (rw c.entries.invariant.so_far
    (next_comma_fails c.args.tokens.now ENTRY c.entries.next (map entry_tree c.entries.found.list) (entries_seen c.in_ok-found.found) _
    (sym c.begins_test.ensures ∙ c.entries-test.true) c.in_ok-found.ensures.read (sym c.sees_sign.ensures ∙ c.if-not-sees_sign.false) c.in_err-behind.ensures.read))

pub chain::chain-growth-init : goal.chain::chain-growth-init
chain::chain-growth-init t c =
    record {
      so_far = chain_start c.args.tokens.now c.args.level c.args.place (seen c.in_ok-left.left) c.in_ok-left.ensures.read;
      moves = c.in_ok-left.ensures.moves;
    }

pub chain::comparison-returns-then-not-begins_comparison-clause-read : goal.chain::comparison-returns-then-not-begins_comparison-clause-read
chain::comparison-returns-then-not-begins_comparison-clause-read t c =
    comp_alone c.args.tokens.now c.args.place (seen c.in_ok-first.first) c.in_ok-first.ensures.read
    (sym c.begins_comparison.ensures ∙ c.if-not-begins_comparison.true) c.in_ok-first.ensures.moves.finished.closed

pub chain::factor-returns-clause-read : goal.chain::factor-returns-clause-read
chain::factor-returns-clause-read t c =
    gives_at seen _ _ _
    (signs_end c.args.tokens.now c.args.place c.signs.inner (seen c.in_ok-found.found) c.signs.invariant.so_far
    (sym c.begins_sign.ensures ∙ c.signs-test.false) c.in_ok-found.ensures.read c.in_ok-found.ensures.moves.finished.closed)
    c.prefixes.ensures.read

pub chain::not_test-returns-clause-read : goal.chain::not_test-returns-clause-read
chain::not_test-returns-clause-read t c =
    gives_at seen _ _ _
    (nots_end c.args.tokens.now c.args.place c.nots.inner (seen c.in_ok-found.found) c.nots.invariant.so_far
    (sym c.sees_key.ensures ∙ c.nots-test.false) c.in_ok-found.ensures.read c.in_ok-found.ensures.moves.finished.closed)
    c.prefixes.ensures.read

pub expression::items-returns-then-not-sees_sign-clause-read : goal.expression::items-returns-then-not-sees_sign-clause-read
expression::items-returns-then-not-sees_sign-clause-read t c =
    let ts = c.args.tokens.now in
    let item = c.in_ok-item.item in
    let found = c.in_ok-found.found in
    let place_is = c.in_ok-found.ensures.place in
    c.items.invariant.so_far
    ∙ trees_last ts TEST c.items.next (map expr_tree c.items.found.list) (seen item)
    (sym c.begins_test.ensures ∙ c.items-test.true) c.in_ok-item.ensures.read (rw (← place_is) (sym c.sees_sign.ensures ∙ c.if-not-sees_sign.true))
    ∙ ap (λ l. Ok (l, item.place)) (sym c.in_ok-found.ensures.list)
    ∙ ap (λ p. Ok (map expr_tree found.list, p)) (sym place_is)

pub expression::items-returns-in_err-behind-clause-read : goal.expression::items-returns-in_err-behind-clause-read
expression::items-returns-in_err-behind-clause-read t c =
    let place_is = c.in_ok-found.ensures.place in
    exit_gives exprs_seen _ _ _ c.from_residual-in_err-behind.ensures.1
    (rw c.items.invariant.so_far
    (trees_comma_fails c.args.tokens.now TEST c.items.next (map expr_tree c.items.found.list) (seen c.in_ok-item.item) _
    (sym c.begins_test.ensures ∙ c.items-test.true) c.in_ok-item.ensures.read
    (rw (← place_is) (sym c.sees_sign.ensures ∙ c.if-not-sees_sign.false)) (rw place_is at c.in_err-behind.ensures.read)))

pub expression::test-heads-init : goal.expression::test-heads-init
expression::test-heads-init t c =
    record {
      so_far = rw c.new-heads.ensures.items (test_start c.args.tokens.now c.args.place (seen c.in_ok-last.last) c.in_ok-last.ensures.read);
      heads = rw c.new-heads.ensures.items tt;
      moves = c.in_ok-last.ensures.moves;
    }

pub expression::test-returns-in_err-condition-clause-read : goal.expression::test-returns-in_err-condition-clause-read
expression::test-returns-in_err-condition-clause-read t c =
    let last = c.heads.last in
    exit_gives seen _ _ _ c.from_residual-in_err-condition.ensures.1
    (alternative_fails c.args.tokens.now c.args.place (map head_of c.heads.heads.items) (piece_of last) last.place _ c.heads.invariant.so_far
    (sym c.sees_key.ensures ∙ c.heads-test.true) c.in_err-condition.ensures.read)

pub expression::test-returns-clause-read : goal.expression::test-returns-clause-read
expression::test-returns-clause-read t c =
    let last = c.heads.last in
    gives_at seen _ _ _
    (test_end c.args.tokens.now c.args.place (map head_of c.heads.heads.items) (piece_of last) last.place c.heads.invariant.so_far
    (sym c.sees_key.ensures ∙ c.heads-test.false) c.heads.invariant.moves.finished.closed)
    c.conditionals.ensures.read

pub chain::grow-returns-in_err-right-in-Some-clause-read : goal.chain::grow-returns-in_err-right-in-Some-clause-read
chain::grow-returns-in_err-right-in-Some-clause-read t c =
    exit_gives seen _ _ _ c.from_residual.ensures.1
    (growth_lacks c.args.tokens.now c.args.level (piece_of c.args.left) c.args.left.place c.in-Some.next _ (sym c.in-Some.ensures) c.in_err-right-in-Some.ensures.read)

pub chain::grow-returns-in_ok-right-in-Some-clause-read : goal.chain::grow-returns-in_ok-right-in-Some-clause-read
chain::grow-returns-in_ok-right-in-Some-clause-read t c =
    gives_at seen _ _ _
    (growth_makes c.args.tokens.now c.args.level (piece_of c.args.left) c.args.left.place c.in-Some.next _ (sym c.in-Some.ensures) c.in_ok-right-in-Some.ensures.read)
    c.joined.ensures.read

pub display::list-returns-in_err-place-clause-read : goal.display::list-returns-in_err-place-clause-read
display::list-returns-in_err-place-clause-read t c =
    exit_gives seen _ _ _ c.from_residual-in_err-place.ensures.1
    (list_close_fails c.args.tokens.now c.args.place (c.in_ok-open.open.now, c.in_ok-open.place) _ _ c.in_ok-open.ensures.read
    (rw c.no_row.ensures.list at c.in_ok-found.ensures.read) c.in_err-place.ensures.read)

pub chain::comparison-returns-in_err-more-clause-read : goal.chain::comparison-returns-in_err-more-clause-read
chain::comparison-returns-in_err-more-clause-read t c =
    exit_gives seen _ _ _ c.from_residual-in_err-more.ensures.1
    (comparisons_fail c.args.tokens.now c.args.place (seen c.in_ok-first.first) _ c.in_ok-first.ensures.read c.in_err-more.ensures.read)

pub chain::comparison-returns-clause-read : goal.chain::comparison-returns-clause-read
chain::comparison-returns-clause-read t c =
    gives_at seen _ _ _
    (comp_made c.args.tokens.now c.args.place (seen c.in_ok-first.first) (comparisons_seen c.in_ok-more.more) c.in_ok-first.ensures.read c.in_ok-more.ensures.read c.in_ok-more.ensures.some)
    c.compared.ensures.read

pub chain::comparisons-comparisons-init : goal.chain::comparisons-comparisons-init
chain::comparisons-comparisons-init t c =
    let ts = c.args.tokens.now in
    let more = c.in_ok-more.more in
    let read = rw (c.no_row.ensures.list, c.no_row.ensures.place) at c.in_ok-more.ensures.read in
    let at_is = ap (λ p. p.at) c.no_row.ensures.place in
    record {
      so_far = first_comparison ts c.args.place (comparisons_seen more) c.requires read;
      some = one_more_some [] _ (comparisons_seen more) read;
      moves = record {
        on = omega (arith, at_is, c.in_ok-more.ensures.moves.on);
        within = c.in_ok-more.ensures.moves.within;
      };
      row = c.in_ok-more.ensures.row;
    }

pub chain::comparisons-comparisons-preserved : goal.chain::comparisons-comparisons-preserved
chain::comparisons-comparisons-preserved t c =
    let ts = c.args.tokens.now in
    let more = c.comparisons.more in
    record {
      so_far =
          more_comparisons ts c.args.place more.place (map comparison_tree more.list) (comparisons_seen c.in_ok-more-2.more) c.comparisons.invariant.so_far
          (sym c.begins_comparison.ensures ∙ c.comparisons-test.true) c.in_ok-more-2.ensures.read;
      some = one_more_some (map comparison_tree more.list) _ (comparisons_seen c.in_ok-more-2.more) c.in_ok-more-2.ensures.read;
      moves = record {
        on = omega (arith, c.comparisons.invariant.moves.on, c.in_ok-more-2.ensures.moves.on);
        within = c.in_ok-more-2.ensures.moves.within;
      };
      row = c.in_ok-more-2.ensures.row;
    }

pub chain::comparisons-returns-in_err-more-clause-read : goal.chain::comparisons-returns-in_err-more-clause-read
chain::comparisons-returns-in_err-more-clause-read t c =
    exit_gives comparisons_seen _ _ _ c.from_residual.ensures.1
    (first_fails c.args.tokens.now c.args.place _ c.requires (rw (c.no_row.ensures.list, c.no_row.ensures.place) at c.in_err-more.ensures.read))

pub chain::comparisons-returns-in_err-more-2-clause-read : goal.chain::comparisons-returns-in_err-more-2-clause-read
chain::comparisons-returns-in_err-more-2-clause-read t c =
    let more = c.comparisons.more in
    exit_gives comparisons_seen _ _ _ c.from_residual-in_err-more-2.ensures.1
    (next_fails c.args.tokens.now c.args.place more.place (map comparison_tree more.list) _ c.comparisons.invariant.so_far
    (sym c.begins_comparison.ensures ∙ c.comparisons-test.true) c.in_err-more-2.ensures.read)

pub chain::comparisons-returns-clause-read : goal.chain::comparisons-returns-clause-read
chain::comparisons-returns-clause-read t c =
    let more = c.comparisons.more in
    comparisons_end c.args.tokens.now c.args.place more.place (map comparison_tree more.list) c.comparisons.invariant.so_far (sym c.begins_comparison.ensures ∙ c.comparisons-test.false)
