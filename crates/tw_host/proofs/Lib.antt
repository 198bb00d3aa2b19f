pub mod KeyTableLemmas
