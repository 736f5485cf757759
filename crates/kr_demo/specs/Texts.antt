-- To be believed: the texts of the demo, line by line.
use Rattle.std.specs.Prelude.{ℕ, List, ◌++◌, codes, decimal}

-- the source, before and after the number of nodes
abbrev pub source_front : List ℕ
source_front =
    codes "import java.util.*;\n" ++
    codes "class Node {\n" ++
    codes "  Node left;\n" ++
    codes "  Node right;\n" ++
    codes "}\n" ++
    codes "class Tree {\n" ++
    codes "  Node root;\n" ++
    codes "  boolean repOk() {\n" ++
    codes "    if (root == null) return false;\n" ++
    codes "    HashSet<Node> seen = new HashSet<Node>();\n" ++
    codes "    LinkedList<Node> work = new LinkedList<Node>();\n" ++
    codes "    seen.add(root);\n" ++
    codes "    work.add(root);\n" ++
    codes "    while (!work.isEmpty()) {\n" ++
    codes "      Node n = work.removeFirst();\n" ++
    codes "      if (n.left != null) {\n" ++
    codes "        if (!seen.add(n.left)) return false;\n" ++
    codes "        work.add(n.left);\n" ++
    codes "      }\n" ++
    codes "      if (n.right != null) {\n" ++
    codes "        if (!seen.add(n.right)) return false;\n" ++
    codes "        work.add(n.right);\n" ++
    codes "      }\n" ++
    codes "    }\n" ++
    codes "    return seen.size() == "

abbrev pub source_back : List ℕ
source_back =
    codes ";\n" ++
    codes "  }\n" ++
    codes "}\n"

-- a class of binary trees; `repOk` accepts those of n nodes, whose nodes differ
abbrev pub source_text : ℕ → List ℕ
source_text n = source_front ++ decimal n ++ source_back

-- the finitization, before and after the number of nodes
abbrev pub finitization_front : List ℕ
finitization_front =
    codes "root = \"Tree\"\n" ++
    codes "fuel = 2000\n" ++
    codes "[objects]\n" ++
    codes "Tree = 1\n" ++
    codes "Node = "

abbrev pub finitization_back : List ℕ
finitization_back =
    codes "\n" ++
    codes "[fields]\n" ++
    codes "\"Tree.root\" = [\"null\", \"Node\"]\n" ++
    codes "\"Node.left\" = [\"null\", \"Node\"]\n" ++
    codes "\"Node.right\" = [\"null\", \"Node\"]\n"

-- one tree, and n nodes for it
abbrev pub finitization_text : ℕ → List ℕ
finitization_text n = finitization_front ++ decimal n ++ finitization_back
