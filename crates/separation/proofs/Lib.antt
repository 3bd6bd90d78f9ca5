-- SEPARATION: an unconnected part keeps its figures whatever load the rest carries. The theorems are `separation`, with its stronger form `separation_by_row` (Theorem), and
-- `hands_out_corrected` and `separation_of_calls` (Calls); on the way `groups_apart` (GroupsApart) and `nodes_apart` (Columns): groups respect parts.

-- solves and factors keep two sets of columns apart
pub mod Solves
pub mod SolveApart
pub mod FactorApart
-- groups respect parts
pub mod Sides
pub mod GrowthApart
pub mod JoiningApart
pub mod GroupsApart
pub mod Parts
pub mod Unions
-- the coarse level and one apply
pub mod Columns
pub mod CoarseApart
pub mod Stages
pub mod ApplyApart
-- from the lists of a setup to what was stored; that stored factors are finite
pub mod Places
pub mod Fitting
pub mod FiniteSetup
-- the theorems, and an instance
pub mod Theorem
pub mod Calls
pub mod Instance
pub mod Instances
pub mod Sharp
