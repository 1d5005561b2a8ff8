pub mod PaddingLaws
