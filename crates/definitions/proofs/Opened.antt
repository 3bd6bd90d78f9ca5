-- Nothing to believe here: `unfolding all_open` lets antt compute with every definition, as the examples do.
use Prim.Native.Nat.{ℕ}
use mathlib.Core.List.{flat_map, zip_with}
use lib.Ieee.{add, sub, mul, div, neg, lt, le, eq, ne, fits, of_int, of_bits, to_bits}
use Rattle.definitions.specs.Lists.{tab, up_to, square, keep, any, all, falls, padded, pointers_from}
use Rattle.definitions.specs.Root.{sqrt_in, isqrt, rounded, locate_root, root, root_exact}
use Rattle.definitions.specs.Numbers.{usable, above, magnitude, larger, largest, nonzeros, total, summed, reduced}
use Rattle.definitions.specs.Refusal.{number_of, values_of, keeps_all, ◌>>=◌, require, result_left, work_left, cause_of}
use Rattle.definitions.specs.Matrix.{row_of, entries_of, values_where, stored_at, structure_of, valid_of}
use Rattle.definitions.specs.Diagonal.{diagonal_from, diagonal_of, diagonal_call, diagonal_left}
use Rattle.definitions.specs.Factor.{products, rest, below_diagonal, factor_rows}
use Rattle.definitions.specs.Block.{block_count, width_of, block_entry, block_of, top_of, skewed, block_factor, factors_from, factors_of, blocks_call, blocks_left, forward, backward, block_solve, block_applied, block_apply_call, block_apply_left}
use Rattle.definitions.specs.Links.{node_entries, unconnected}
use Rattle.definitions.specs.Neighbours.{neighbours_of, squares_towards, norm_towards, divisor_of, divides, strength, stronger, inserted, sorted, strong_neighbours_of, list_for, neighbour_lists, flat_neighbours}
use Rattle.definitions.specs.Groups.{waiting, free, grow_group, grow_groups, relabelled, joined, replay, edges_to, before, chosen, other_groups, named_groups, taker_of, round_from, joinings_from, place, firsts, renumbered, nodes_of, groups_of, grown, joinings, graph_grouping, contiguous_grouping, listed, grouping_call, grouping_left, grouping_work_left}
use Rattle.definitions.specs.JoiningLog.{unbeaten, candidates, first_single, rule_of, log_of, with_log, grouping_log_call, grouping_in, log_left}
use Rattle.definitions.specs.Estimate.{usable_from, inverse_roots, start_of, norm, normalised, row_terms, image, rounds, rho_of, damping_of, estimate_of, estimate_call, estimate_work_left}
use Rattle.definitions.specs.Transfer.{coarse_column, tentative, smoothing_terms, weight_at, transfer_row, transfer_of}
use Rattle.definitions.specs.Coarse.{constant_terms, constant_entry, weighted_sum, weights_at, product_terms, galerkin_terms, galerkin_entry, averaged, averaged_square, coarse_factor, packed_forward, packed_backward, packed_solve, unit, inverse_of, resolved, coarse_length, coarse_part, coarse_solve}
use Rattle.definitions.specs.Places.{entry_needs, coarse_needs, covers, used_ints, used_floats}
use Rattle.definitions.specs.Setup.{front_of, graph_of, grouping_of, transfer_for, coarse_entry, coarse_matrix, transfer_ints, transfer_floats, built_from, setup_of, lengths_of, setup_left}
use Rattle.definitions.specs.Fits.{within_limits, is_resolved, transfers_fit, transfer_fits, setup_fits}
use Rattle.definitions.specs.Apply.{constant_restriction_terms, smoothed_restriction_terms, prolongation_terms, restriction_terms, restricted, coarse_solution, gained, applied, apply_call, apply_left, apply_work_left, corrected}
use Rattle.definitions.specs.Answers.{answer_of, grouping_answer, grouping_log_answer, estimate_answer, setup_answer, answer_number, answer_values, grouping_values, grouping_log_values, estimate_values, values_with}
use Rattle.definitions.specs.Text.{is_blank, is_digit, trimmed, digits, first, number, neighbours_from, nodes_from, is_none, text_grouping, decimal_in, decimal, line, printed, program}
use Rattle.definitions.specs.Formed.{sums, differences, total_formed, summed_formed, reduced_formed, factor_formed, block_formed, blocks_formed, strength_formed, grouping_formed, normalised_formed, image_formed, rounds_formed, estimate_formed, transfer_formed, galerkin_formed, coarse_formed, averages_formed, packed_solve_formed, inverse_formed, block_solve_formed, coarse_solve_formed, restriction_formed, gain_formed, apply_formed, setup_formed, formed, all_finite}
use Rattle.definitions.specs.Separation.{agree, follows_graph, is_done, f64s, agreeing}

unfoldable pub all_open : ℕ
unfolding flat_map zip_with add sub mul div neg lt le eq ne fits of_int of_bits to_bits tab up_to square keep any all falls padded pointers_from sqrt_in isqrt rounded locate_root root root_exact usable above magnitude larger largest nonzeros total summed reduced number_of values_of keeps_all cause_of ◌>>=◌ require result_left work_left row_of entries_of values_where stored_at structure_of valid_of diagonal_from diagonal_of diagonal_call diagonal_left products rest below_diagonal factor_rows block_count width_of block_entry block_of top_of skewed block_factor factors_from factors_of blocks_call blocks_left forward backward block_solve block_applied block_apply_call block_apply_left node_entries unconnected neighbours_of squares_towards norm_towards divisor_of divides strength stronger inserted sorted strong_neighbours_of list_for neighbour_lists flat_neighbours waiting free grow_group grow_groups relabelled joined replay edges_to before chosen other_groups named_groups taker_of round_from joinings_from place firsts renumbered nodes_of groups_of grown joinings graph_grouping contiguous_grouping listed grouping_call grouping_left grouping_work_left unbeaten candidates first_single rule_of log_of with_log grouping_log_call grouping_in log_left usable_from inverse_roots start_of norm normalised row_terms image rounds rho_of damping_of estimate_of estimate_call estimate_work_left coarse_column tentative smoothing_terms weight_at transfer_row transfer_of constant_terms constant_entry weighted_sum weights_at product_terms galerkin_terms galerkin_entry averaged averaged_square coarse_factor packed_forward packed_backward packed_solve unit inverse_of resolved coarse_length coarse_part coarse_solve entry_needs coarse_needs covers front_of graph_of grouping_of transfer_for coarse_entry coarse_matrix transfer_ints transfer_floats built_from setup_of lengths_of setup_left used_ints used_floats within_limits is_resolved transfers_fit transfer_fits setup_fits constant_restriction_terms smoothed_restriction_terms prolongation_terms restriction_terms restricted coarse_solution gained applied apply_call apply_left apply_work_left corrected answer_of grouping_answer grouping_log_answer estimate_answer setup_answer answer_number answer_values grouping_values grouping_log_values estimate_values is_blank is_digit trimmed digits first number neighbours_from nodes_from is_none text_grouping decimal_in decimal line printed program sums differences total_formed summed_formed reduced_formed factor_formed block_formed blocks_formed strength_formed grouping_formed normalised_formed image_formed rounds_formed estimate_formed transfer_formed galerkin_formed coarse_formed averages_formed packed_solve_formed inverse_formed block_solve_formed coarse_solve_formed restriction_formed gain_formed apply_formed setup_formed formed all_finite agree follows_graph is_done f64s agreeing values_with
all_open = 0
