-- The facts of a diagram, what they claim of every assignment, and the facts after each line.
use Rattle.std.specs.Prelude.{◌≡◌, ℕ, Bool, not, ◌&&◌, ◌||◌, List, [], ◌∷◌, ◌++◌, length, Option}
use Rattle.std.specs.Prelude.{Some, None, Result, Ok, Err, slice_get, nat_le}
use Rattle.bw_model.specs.FaultTable.{NODE, PRODUCT_ROW, CHAIN_ROW, LIMIT}
use Rattle.bw_model.specs.declared.column.Column.{Column}
use Rattle.bw_model.specs.declared.fault.Fault.{Fault}
use Rattle.bw_model.specs.Fault.{is_memory, nowhere, refused_if, ◌>>=◌}
use Rattle.bw_model.specs.Variable.{variables_of}
use Rattle.bw_diagram.specs.declared.node.Node.{Node}
use Rattle.bw_diagram.specs.declared.chain.Chain.{Chain}
use Rattle.bw_diagram.specs.declared.product.Product.{Product}
use Rattle.bw_diagram.specs.declared.product.Reason.{Reason}
use Rattle.bw_diagram.specs.Node.{AreOrdered, is_valid_node}
use Rattle.bw_diagram.specs.Chain.{IsChain, is_valid_chain}
use Rattle.bw_diagram.specs.Product.{IsProduct, is_valid_product}

-- the columns of a diagram, and its nodes, chains and product rows, each in the order of their
-- numbers
pub record Facts : Type 0 where
  pub columns : List Column
  pub nodes : List Node
  pub chains : List Chain
  pub products : List Product

-- the most nodes, chains and product rows
abbrev pub most_nodes : ℕ
most_nodes = 65534

abbrev pub most_chains : ℕ
most_chains = 65536

abbrev pub most_products : ℕ
most_products = 1048576

-- Children come before their nodes, and each chain and each product row is true of every
-- assignment.
pub record AreTrue (facts : Facts) : Type 0 where
  pub ordered : AreOrdered facts.nodes
  pub chains : (k : ℕ) (chain : Chain) → slice_get facts.chains k ≡ Some chain
      → IsChain facts.columns facts.nodes chain
  pub products : (k : ℕ) (row : Product) → slice_get facts.products k ≡ Some row
      → IsProduct facts.nodes row

-- the facts before any line
abbrev pub no_facts : List Column → Facts
no_facts columns = record { columns = columns; nodes = []; chains = []; products = [] }

-- A node that is valid as the next one, under this number. At the limit it is 604, else 601 if it
-- breaks its rule.
unfoldable pub accept_node : Facts → ℕ → Node → Result Node Fault
accept_node facts number node =
    refused_if (nat_le most_nodes (length facts.nodes)) (nowhere LIMIT)
    (refused_if (not (is_valid_node (variables_of facts.columns) facts.nodes number node))
    (nowhere NODE) (Ok node))

-- the facts after the line of a node
abbrev pub with_node : Facts → ℕ → Node → Result Facts Fault
with_node facts number node =
    accept_node facts number node >>= λ node. Ok (record facts { nodes = facts.nodes ++ node ∷ [] })

-- A chain that is valid as the next one, under this number. At the limit it is 604, else 603 if a
-- word of its line isn't a column's name, or if it breaks its rule.
abbrev pub accept_if_named : Facts → ℕ → Option Chain → Result Chain Fault
accept_if_named facts number None = Err (nowhere CHAIN_ROW)
accept_if_named facts number (Some chain) =
    refused_if (not (is_valid_chain facts.columns facts.nodes facts.chains number chain))
    (nowhere CHAIN_ROW) (Ok chain)

unfoldable pub accept_chain : Facts → ℕ → Option Chain → Result Chain Fault
accept_chain facts number named =
    refused_if (nat_le most_chains (length facts.chains)) (nowhere LIMIT)
    (accept_if_named facts number named)

-- the facts after the line of a chain
abbrev pub with_chain : Facts → ℕ → Option Chain → Result Facts Fault
with_chain facts number named =
    accept_chain facts number named
    >>= λ chain. Ok (record facts { chains = facts.chains ++ chain ∷ [] })

-- A product row that is valid as the next one, under this number. At the limit it is 604, else 602
-- if it breaks its rule.
unfoldable pub accept_product : Facts → ℕ → Product → Reason → Result Product Fault
accept_product facts number row reason =
    refused_if (nat_le most_products (length facts.products)) (nowhere LIMIT)
    (refused_if (not (is_valid_product (variables_of facts.columns) facts.nodes facts.products
    number
    row reason))
    (nowhere PRODUCT_ROW) (Ok row))

-- the facts after the line of a product row
abbrev pub with_product : Facts → ℕ → Product → Reason → Result Facts Fault
with_product facts number row reason =
    accept_product facts number row reason
    >>= λ row. Ok (record facts { products = facts.products ++ row ∷ [] })

-- the error is one of 601 to 604, or out of memory
abbrev pub is_diagram_fault : Fault → Bool
is_diagram_fault fault = (nat_le NODE fault.code && nat_le fault.code LIMIT) || is_memory fault
